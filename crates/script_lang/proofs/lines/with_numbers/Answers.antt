use Rattle.std.proofs.Common.{◌∙◌, ap}
use Rattle.script_lang.specs.Reading.{verb_text}
use Rattle.script_lang.proofs.Verbs.{get_operands, put_operands, del_operands, scan_operands, add_operands, back_operands, moved}
use Rattle.script_lang.proofs.lines.with_numbers.Goals as goal

pub returns-in-None : goal.returns-in-None
returns-in-None c = λ action names has. let is = get_operands _ action (names ∙ ap verb_text c.in-Get.is) has in c.in-None.ensures is.0 is.1

pub returns-in-None-two_numbers : goal.returns-in-None-two_numbers
returns-in-None-two_numbers c = λ action names has. let is = put_operands _ action (names ∙ ap verb_text c.in-Put.is) has in c.in-None-two_numbers.ensures is.0 is.1 is.2

pub returns-in-None-number_of : goal.returns-in-None-number_of
returns-in-None-number_of c = λ action names has. let is = del_operands _ action (names ∙ ap verb_text c.in-Del.is) has in c.in-None-number_of.ensures is.0 is.1

pub returns-in-None-scan_of : goal.returns-in-None-scan_of
returns-in-None-scan_of c = λ action names has. let is = scan_operands _ action (names ∙ ap verb_text c.in-Scan.is) has in c.in-None-scan_of.ensures is.0 is.1 is.2 is.3

pub returns-in-None-two_numbers-2 : goal.returns-in-None-two_numbers-2
returns-in-None-two_numbers-2 c = λ action names has. let is = add_operands _ action (names ∙ ap verb_text c.in-Add.is) has in c.in-None-two_numbers-2.ensures is.0 is.1 is.2

pub returns-in-Move : goal.returns-in-Move
returns-in-Move c = moved _ _ c.move_of.result (ap verb_text c.in-Move.is) c.move_of.ensures

pub returns-in-None-number_of-2 : goal.returns-in-None-number_of-2
returns-in-None-number_of-2 c = λ action names has. let is = back_operands _ action (names ∙ ap verb_text c.in-Back.is) has in c.in-None-number_of-2.ensures is.0 is.1
