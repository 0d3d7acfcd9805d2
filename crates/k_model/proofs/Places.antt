-- What a step leaves of each field at each number: for a side that compares states number by number.
use Rattle.std.proofs.Common.{◌≡◌, ◌≢◌, ℕ, Bool, true, false, not, List, [], ◌∷◌, refl, ap, ◌∙◌, Option, Some, None, arith, position, leb, length, get_or}
use Rattle.std.proofs.lemmas.Bool.Decides.{nat_tests}
use Rattle.std.specs.List.{filter}
use Rattle.k_ids.specs.declared.threads.ThreadId.{ThreadId}
use Rattle.k_ids.specs.declared.threads.Message.{Message}
use Rattle.k_ids.specs.declared.threads.Status.TheVariants as status
use Rattle.k_ids.specs.declared.calls.Outcome.TheVariants as outcome
use Rattle.k_ids.specs.declared.calls.Act.TheVariants as act
use Rattle.k_model.specs.Maps.{upd}
use Rattle.k_model.specs.State.{KernelState, Waiting, admits, same_id, with_status}
use Rattle.k_model.specs.Step.{no_one, entry_at, match_at, queued, killed, taken, receive, received, acted}
use Rattle.k_model.proofs.Maps.{upd_tells}
use Rattle.k_model.proofs.Sound.{kept}

module _ (k : KernelState) (me to : ThreadId) (message : Message) (joined : Bool) (t : ℕ) (other : me.number ≢ to.number) where
  pub queued_status : ((queued k me to message joined).place t).status ≡ upd (λ u. (k.place u).status) me.number (status.Sending to) t
  unfolding queued
  queued_status = grind (arith, upd_tells)

module _ (k : KernelState) (who : ThreadId) (t : ℕ) where
  pub killed_version : ((killed k who).place t).version ≡ (k.place t).version
  unfolding killed
  killed_version = grind (arith, upd_tells)

  pub killed_serial : ((killed k who).place t).serial ≡ (k.place t).serial
  unfolding killed
  killed_serial = grind (arith, upd_tells)

  pub killed_joined : ((killed k who).place t).joined ≡ upd (λ u. (k.place u).joined) who.number false t
  unfolding killed
  killed_joined = grind (arith, upd_tells)

  pub killed_status : ((killed k who).place t).status ≡ upd (λ u. (k.place u).status) who.number status.Dead t
  unfolding killed
  killed_status = grind (arith, upd_tells)

  pub killed_waiting : ((killed k who).place t).waiting ≡ upd (λ u. filter (λ w. not (same_id w.0 who)) (k.place u).waiting) who.number [] t
  unfolding killed
  killed_waiting = grind (arith, upd_tells)

-- A pick, said outright: with nobody waiting the thread receives from any; else it takes the first entry.
at_none : (ws : List Waiting) → ws ≡ [] → position (λ (x : Waiting). admits None x.0) ws ≡ None
at_none ws e = rw e refl

at_first : (w : Waiting) (ws : List Waiting) → position (λ (x : Waiting). admits None x.0) (w ∷ ws) ≡ Some 0
at_first w ws = let some : leb 1 (length (w ∷ ws)) ≡ true = grind (arith, nat_tests) in rw some refl

pub pick_waits : (k : KernelState) (who : ThreadId) (serial : ℕ) → (k.place who.number).waiting ≡ [] → acted k who serial act.Pick ≡ (with_status (with_status k who.number status.Run) who.number (status.Receiving None), outcome.Waits)
unfolding acted receive received
pick_waits k who serial none =
    let m = with_status k who.number status.Run in
    let list : (m.place who.number).waiting ≡ [] = kept (λ p. p.waiting) k who.number (record (k.place who.number) { status = status.Run; joined = false }) refl who.number ∙ none in
    ap (λ (at : Option ℕ). received m who serial None false at) (at_none (m.place who.number).waiting list)

pub pick_takes : (k : KernelState) (who : ThreadId) (serial : ℕ) (w : Waiting) (ws : List Waiting) → (k.place who.number).waiting ≡ w ∷ ws → acted k who serial act.Pick ≡ (taken (with_status k who.number status.Run) who serial 0, outcome.Took w.0 w.1)
unfolding acted receive received
pick_takes k who serial w ws some =
    let m = with_status k who.number status.Run in
    let list : (m.place who.number).waiting ≡ w ∷ ws = kept (λ p. p.waiting) k who.number (record (k.place who.number) { status = status.Run; joined = false }) refl who.number ∙ some in
    let first : match_at m who None ≡ Some 0 = ap (λ (us : List Waiting). position (λ (x : Waiting). admits None x.0) us) list ∙ at_first w ws in
    let entry : entry_at m who.number 0 ≡ w = ap (λ (us : List Waiting). get_or us 0 no_one) list in
    ap (λ (at : Option ℕ). received m who serial None false at) first ∙ ap (λ (e : Waiting). (taken m who serial 0, outcome.Took e.0 e.1)) entry
