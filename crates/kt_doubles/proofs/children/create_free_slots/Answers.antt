use Rattle.kt_doubles.proofs.FreeSlots.{all_same}
use Rattle.kt_doubles.specs.declared.children.ChildSlot.TheVariants.{Free}
use Rattle.kt_doubles.proofs.children.create_free_slots.Goals as goal

pub returns : goal.returns
returns c = λ k. all_same 2048 k Free
