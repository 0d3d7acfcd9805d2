-- A program goes on, later replies change nothing of what was made, and each call takes one from those that are left.
use Rattle.std.proofs.Common.{◌≡◌, ℕ, ◌+◌, ◌<◌, ◌≤◌, ◌==◌, Bool, true, false, if◌then◌else◌, List, [], ◌∷◌, ◌++◌, refl, sym, ap, ◌∙◌, subst, arith, Option, Some, None, is_some, inl, inr}
use Rattle.std.specs.List.{sum_by}
use Rattle.std.proofs.lemmas.List.Sums.{sum_by-cons}
use Rattle.std.proofs.lemmas.Bool.{cases_Bool}
use Rattle.k_ids.specs.declared.threads.ThreadId.{ThreadId}
use Rattle.k_ids.specs.declared.threads.Message.{Message}
use Rattle.k_ids.specs.declared.calls.Phase.{Phase}
use Rattle.k_ids.specs.declared.calls.Reply.{Reply}
use Rattle.k_script.specs.declared.operation.Operation.{Operation}
use Rattle.k_script.specs.declared.operation.Operation.TheVariants as operation
use Rattle.k_script.specs.declared.registers.Registers.{Registers}
use Rattle.k_script.specs.Script.{Script}
use Rattle.k_script.specs.Weight.{phase_scale, cost, program_phases}
use Rattle.k_script.specs.Plays.{Position, Runs, phase_next, moved, phases_left, phases_in, phases_given, reply_phase, is_sent, is_reply, coming, after_work, filled, first_move, first_phase, phase_of, message_of}

-- One more call, of a program that is not over.
pub runs_push : (version : ℕ) (replies : ℕ → Option Reply) (p q : Position) (s next : ℕ) (calls : List (ℕ × Phase)) → is_some q.left ≡ true → Runs version replies p s calls q next → Runs version replies p s (calls ++ (next, phase_next version q (replies next)) ∷ []) (moved q (replies next)) (next + 1)
runs_push version replies p q s next [] some h = (
  ap (λ (x : Position). is_some x.left) (sym h.0) ∙ some,
  ap (λ (i : ℕ). (i, phase_next version q (replies i))) h.1 ∙ ap (λ (x : Position). (s, phase_next version x (replies s))) h.0,
  (ap (λ (i : ℕ). moved q (replies i)) h.1 ∙ ap (λ (x : Position). moved x (replies s)) h.0, ap (λ (i : ℕ). i + 1) h.1),
)
runs_push version replies p q s next (c ∷ calls) some h = (h.0, h.1, runs_push version replies (moved p (replies s)) q (s + 1) next calls some h.2)

-- Serials go up.
pub runs_from : (version : ℕ) (replies : ℕ → Option Reply) (p q : Position) (s next : ℕ) (calls : List (ℕ × Phase)) → Runs version replies p s calls q next → s ≤ next
runs_from version replies p q s next [] h = omega (arith, h.1)
runs_from version replies p q s next (c ∷ calls) h = omega (arith, runs_from version replies (moved p (replies s)) q (s + 1) next calls h.2)

-- Replies that come later change nothing.
pub runs_later : (version : ℕ) (a b : ℕ → Option Reply) (p q : Position) (s next : ℕ) (calls : List (ℕ × Phase)) → ((i : ℕ) → i < next → a i ≡ b i) → Runs version a p s calls q next → Runs version b p s calls q next
runs_later version a b p q s next [] same h = h
runs_later version a b p q s next (c ∷ calls) same h =
    let e : a s ≡ b s = same s (omega (arith, runs_from version a (moved p (a s)) q (s + 1) next calls h.2)) in (
      h.0,
      h.1 ∙ ap (λ (r : Option Reply). (s, phase_next version p r)) e,
      subst (λ (r : Option Reply). Runs version b (moved p r) (s + 1) calls q next) e (runs_later version a b (moved p (a s)) q (s + 1) next calls same h.2),
    )

-- HOW MUCH IS LEFT: each call takes one at least, until the end was made, and a create what it gives.

given_by_reply : (script : Script) (version : ℕ) (to : ThreadId) (message : Message) (zero two : Bool) → (version == 2) ≡ two → phases_given script (reply_phase version to message zero) ≡ 0
given_by_reply script version to message zero true e = rw e refl
given_by_reply script version to message zero false e = rw e refl

abbrev counted : Script → Operation → ℕ
counted script op = cost phase_scale (program_phases script) op

-- an operation that makes a phase
costs : (script : Script) (version : ℕ) (r : Registers) (op : Operation) (ops : List Operation) → counted script op ≡ (if is_reply op then 1 else 0) + phases_given script (phase_of version r op) + 1 → phases_left script (first_move r (op ∷ ops)) + phases_given script (first_phase version r (op ∷ ops)) + 1 ≤ sum_by (counted script) (op ∷ ops) + 1
costs script version r op ops e = omega (arith, e, sum_by-cons (counted script) op ops)

next_costs : (script : Script) (version : ℕ) (r : Registers) (ops : List Operation) → phases_left script (first_move r (after_work ops)) + phases_given script (first_phase version r (after_work ops)) + 1 ≤ sum_by (counted script) ops + 1
next_costs script version r [] = omega arith
next_costs script version r (operation.Work count ∷ ops) = omega (arith, sum_by-cons (counted script) (operation.Work count) ops, next_costs script version r ops)
next_costs script version r (operation.Send to low high zero ∷ ops) = costs script version r (operation.Send to low high zero) ops refl
next_costs script version r (operation.Receive from zero ∷ ops) = costs script version r (operation.Receive from zero) ops refl
next_costs script version r (operation.Call to low high zero ∷ ops) = costs script version r (operation.Call to low high zero) ops refl
next_costs script version r (operation.Reply low high zero ∷ ops) =
    let none : phases_given script (reply_phase version r.last (message_of r low high) zero) ≡ 0 = given_by_reply script version r.last (message_of r low high) zero (version == 2) refl in
    costs script version r (operation.Reply low high zero) ops (omega (arith, none))
next_costs script version r (operation.Create program priority ∷ ops) = costs script version r (operation.Create program priority) ops (omega arith)
next_costs script version r (operation.Destroy who ∷ ops) = costs script version r (operation.Destroy who) ops refl
next_costs script version r (operation.Repeat count ∷ ops) = costs script version r (operation.Repeat count) ops refl
next_costs script version r (operation.Again ∷ ops) = costs script version r operation.Again ops refl

coming_costs : (script : Script) (version : ℕ) (replying : Bool) (last : Option Reply) (r : Registers) (ops : List Operation) → phases_left script (first_move r (after_work (coming replying last ops))) + phases_given script (first_phase version r (after_work (coming replying last ops))) + 1 ≤ phases_in script replying (Some ops)
coming_costs script version false last r ops = omega (arith, next_costs script version r ops)
coming_costs script version true last r ops = elim (cases_Bool (is_sent last)) [
  | inl t ↦ rw t (omega arith)
  | inr f ↦ rw f (omega (arith, next_costs script version r ops))
]

pub next_left : (script : Script) (version : ℕ) (p : Position) (last : Option Reply) → is_some p.left ≡ true → phases_left script (moved p last) + phases_given script (phase_next version p last) + 1 ≤ phases_left script p
next_left script version p last some = go p.left refl some
  where
    go : (left : Option (List Operation)) → p.left ≡ left → is_some left ≡ true → phases_left script (moved p last) + phases_given script (phase_next version p last) + 1 ≤ phases_left script p
    go None e h = absurd cc
    go (Some ops) e h = rw e (coming_costs script version p.replying last (filled p.registers last) ops)

-- So many calls were made, and so many are still to come at most.
pub runs_left : (script : Script) (version : ℕ) (replies : ℕ → Option Reply) (p q : Position) (s next : ℕ) (calls : List (ℕ × Phase)) → Runs version replies p s calls q next → next + phases_left script q ≤ s + phases_left script p
runs_left script version replies p q s next [] h = let same : phases_left script q ≡ phases_left script p = ap (phases_left script) h.0 in omega (arith, h.1, same)
runs_left script version replies p q s next (c ∷ calls) h = omega (arith, next_left script version p (replies s) h.0, runs_left script version replies (moved p (replies s)) q (s + 1) next calls h.2)
