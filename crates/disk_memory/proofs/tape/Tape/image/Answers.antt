use Rattle.std.proofs.Common.{sym, subst}
use Rattle.io_model.specs.Story.{IsImage}
use Rattle.disk_memory.specs.Told.{View}
use Rattle.disk_memory.specs.Image.{left_by}
use Rattle.disk_memory.proofs.Images.{left_image}
use Rattle.disk_memory.proofs.tape.Tape.image.Goals as goal

pub returns-clause-is_image : goal.returns-clause-is_image
returns-clause-is_image c =
    let i = c.self.inside in
    let is : IsImage c.args.self.now.story (left_by c.args.choice c.args.self.now.story) = subst (λ (v : View). IsImage v.story (left_by c.args.choice v.story)) c.self.view_is (left_image c.args.choice i.start.items i.notes.items i.written.items) in
    subst (IsImage c.args.self.now.story) (sym c.in_ok-left.ensures) is
