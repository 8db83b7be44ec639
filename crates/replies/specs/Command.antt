-- The call that a command is.
use Rattle.replies.specs.declared.command.Command.{Command}
use Rattle.replies.specs.declared.command.Command.TheVariants.{NewObject, DropObject, Write, Read, Add, LookUp, Copy, Shadow, Zero, Counts}
use Rattle.book.specs.Book.{Call, new_object, drop_object, write, read, add, look_up, copy, shadow, zero_out, counts}

abbrev pub call_for : Command → Call
call_for (NewObject o) = new_object o
call_for (DropObject o) = drop_object o
call_for (Write o x d) = write o x d.now
call_for (Read o x n) = read o x n
call_for (Add o p) = add o p.0
call_for (LookUp o p) = look_up o p.0
call_for (Copy s) = copy s.source s.from s.object s.to s.n
call_for (Shadow s) = shadow s.source s.from s.object s.to s.n
call_for (Zero o x n) = zero_out o x n
call_for Counts = counts
