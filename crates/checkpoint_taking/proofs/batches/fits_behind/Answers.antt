use Rattle.checkpoint_taking.proofs.Sizes.{room_is}
use Rattle.checkpoint_taking.proofs.batches.fits_behind.Goals as goal

pub returns : goal.returns
returns c =
    room_is c.length_is_size_in_file.ensures c.args.r.now c.requires c.args.last.now c.file_record_size.result c.saturating_sub.result c.file_record_size.ensures c.saturating_sub.ensures
