-- Messages of two words of 32 bits: which of a call, of a reply, of a program's registers and of a state are such.
use Rattle.std.specs.Prelude.{◌≡◌, ℕ, ◌≤◌, nat_le, Bool, true, ◌&&◌, Option, Some, None}
use Rattle.std.specs.List.{AllByRecursion}
use Rattle.k_board.specs.Words.{Programs}
use Rattle.k_ids.specs.declared.calls.Act.{Act}
use Rattle.k_ids.specs.declared.calls.Act.TheVariants as act
use Rattle.k_ids.specs.declared.calls.Phase.{Phase}
use Rattle.k_ids.specs.declared.calls.Phase.TheVariants as phase
use Rattle.k_ids.specs.declared.calls.Reply.{Reply}
use Rattle.k_ids.specs.declared.calls.Reply.TheVariants as reply
use Rattle.k_ids.specs.declared.threads.Message.{Message}
use Rattle.k_model.specs.State.{KernelState}
use Rattle.k_script.specs.Plays.{Position}
use Rattle.k_script.specs.declared.registers.Next.TheVariants as next

-- The message is two words of 32 bits. A program may send on either of those that it got, so both have to be.
pub record HasWords (m : Message) : Type 0 where
  pub low : m.low ≤ 4294967295
  pub high : m.high ≤ 4294967295

-- whether it is
abbrev pub has_words : Message → Bool
has_words m = nat_le m.low 4294967295 && nat_le m.high 4294967295

-- What a call sends is such a message.
abbrev pub SendsWords : Phase → Type 0
SendsWords (phase.Send to message zero joined) = HasWords message
SendsWords (phase.Reply to message zero) = HasWords message
SendsWords (phase.Receive from zero) = Unit {0}
SendsWords (phase.Create program priority) = Unit {0}
SendsWords (phase.Destroy victim) = Unit {0}
SendsWords phase.End = Unit {0}

-- whether it is, if the call sends
abbrev pub sends_words : Phase → Bool
sends_words (phase.Send to message zero joined) = has_words message
sends_words (phase.Reply to message zero) = has_words message
sends_words (phase.Receive from zero) = true
sends_words (phase.Create program priority) = true
sends_words (phase.Destroy victim) = true
sends_words phase.End = true

-- What an event sends is of its call, and other events send nothing.
abbrev pub ActSendsWords : Act → Type 0
ActSendsWords (act.Call f) = SendsWords f
ActSendsWords act.Gone = Unit {0}
ActSendsWords act.Pick = Unit {0}

-- Whatever these programs send is such a message, at any position and after any reply.
abbrev pub AllSendWords : Programs → Type 0
AllSendWords g = (p : Position) (r : Option Reply) (f : Phase) → g.next p r ≡ next.Phase f → SendsWords f

-- What a reply tells is such a message.
abbrev pub TellsWords : Reply → Type 0
TellsWords reply.Sent = Unit {0}
TellsWords (reply.Got from message) = HasWords message
TellsWords (reply.Made id) = Unit {0}
TellsWords reply.Killed = Unit {0}
TellsWords (reply.Absent found) = Unit {0}
TellsWords (reply.Busy found) = Unit {0}
TellsWords reply.Nobody = Unit {0}
TellsWords reply.Own = Unit {0}
TellsWords (reply.Full alive worn) = Unit {0}
TellsWords reply.Gone = Unit {0}

-- so it is of the reply to a call, if it has one yet
abbrev pub ToldWords : Option Reply → Type 0
ToldWords None = Unit {0}
ToldWords (Some r) = TellsWords r

-- The program got such a message last.
abbrev pub IsFilled : Position → Type 0
IsFilled p = HasWords p.registers.got

-- Each message that waits in the state, and each that was told, is such.
pub record StateHasWords (k : KernelState) : Type 0 where
  pub waiting : (t : ℕ) → AllByRecursion (λ w. HasWords w.1) (k.place t).waiting
  pub told : AllByRecursion (λ line. TellsWords line.reply) k.replies
