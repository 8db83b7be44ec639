-- `replies::call`: a call that has no more to tell than its number.
use Rattle.calls.specs.With.{did_with}
use Rattle.replies.specs.Replies.{spoke_done}
use Rattle.replies.proofs.call.Goals as goal

pub returns-in-NewObject : goal.returns-in-NewObject
returns-in-NewObject c = rw c.in-NewObject.is (spoke_done (did_with _ _ _ _ _ c.new_object.ensures _) c.done.ensures.told c.done.ensures.store)

pub returns-in-DropObject : goal.returns-in-DropObject
returns-in-DropObject c = rw c.in-DropObject.is (spoke_done (did_with _ _ _ _ _ c.drop_object.ensures _) c.done-in-DropObject.ensures.told c.done-in-DropObject.ensures.store)

pub returns-in-Write : goal.returns-in-Write
returns-in-Write c = rw c.in-Write.is (spoke_done c.write.ensures c.done-in-Write.ensures.told c.done-in-Write.ensures.store)

pub returns-in-Copy : goal.returns-in-Copy
returns-in-Copy c = rw c.in-Copy.is (spoke_done c.copy_ranges-r.ensures c.done-in-Copy.ensures.told c.done-in-Copy.ensures.store)

pub returns-in-Shadow : goal.returns-in-Shadow
returns-in-Shadow c = rw c.in-Shadow.is (spoke_done c.copy_range_to_shadow-r.ensures c.done-in-Shadow.ensures.told c.done-in-Shadow.ensures.store)

pub returns-in-Zero : goal.returns-in-Zero
returns-in-Zero c = rw c.in-Zero.is (spoke_done c.zero_ranges.ensures c.done-in-Zero.ensures.told c.done-in-Zero.ensures.store)
