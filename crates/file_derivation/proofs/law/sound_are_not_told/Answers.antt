use Rattle.file_derivation.proofs.Sound.{sound}
use Rattle.file_derivation.proofs.law.sound_are_not_told.Goals as goal

pub returns : goal.returns
returns c = sound c.bounded_are_not_refused.ensures c.names_repeat_or_not.ensures.decided c.one_gathering.ensures c.one_aliasing.ensures c.one_reading_of_items.ensures c.one_selecting.ensures.selected c.one_selecting.ensures.added
