-- What marks of waits keep, whatever is done.
use Rattle.std.proofs.Common.{◌≡◌, ℕ, ◌<◌, Bool, true, false, not, List, [], ◌∷◌, ◌++◌, length, Option, Some, None, refl, ◌∙◌, arith, inl, inr}
use Rattle.std.specs.List.{slice_set}
use Rattle.std.proofs.lemmas.Bool.{cases_Bool}
use Rattle.std.proofs.lemmas.List.{get_or_append_left, length-set, length_push}
use Rattle.k_script.specs.Script.{Script}
use Rattle.k_context.specs.declared.owner.Owner.{Owner}
use Rattle.k_context.specs.Contexts.{ContextSeen, owner_of}
use Rattle.k_carrier.specs.declared.marks.Link.{Link}
use Rattle.k_carrier.specs.declared.marks.WaitMark.{WaitMark}
use Rattle.k_carrier.specs.declared.marks.Want.{Want}
use Rattle.k_carrier.specs.Answers.{AnswerSeen}
use Rattle.k_carrier.specs.Answers as answer
use Rattle.k_world.specs.Frames.{is_section}
use Rattle.k_world.specs.Lawful.{IsLater}
use Rattle.k_world.specs.Marks.{Course, Still, Onward, HeldUp, all_got, chained, with_use, counted_in, dropped, got_by, has_mark, held_up, held_up_by, is_linked, is_of, link_of, mark_at, mark_of, more_allowed, no_mark, same_goal, standing_at, used_once, with_got}
use Rattle.k_world.specs.Steps.{CarrierStep, carrier_after, course_in, is_helping, moved, moved_by, step_in, unbroken_waits, waits_after, waits_by}
use Rattle.k_world.specs.Worlds.{WaitLog, World, context_at}
use Rattle.k_world.proofs.Lists.{set_keeps}

later_same : (m : WaitMark) → IsLater m m
later_same m = record { requester = refl; serial = refl; wants = refl; first = refl; got = λ e. e }

later_next : (a b c : WaitMark) → IsLater a b → IsLater b c → IsLater a c
later_next a b c h g = record {
  requester = g.requester ∙ h.requester;
  serial = g.serial ∙ h.serial;
  wants = g.wants ∙ h.wants;
  first = g.first ∙ h.first;
  got = λ e. g.got (h.got e);
}

-- each mark of the first list is still there
abbrev AllLater : List WaitMark → List WaitMark → Type 0
AllLater marks marks' = (k : ℕ) → k < length marks → (k < length marks') × IsLater (mark_at marks k) (mark_at marks' k)

all_same : (marks : List WaitMark) → AllLater marks marks
all_same marks k l = (l, later_same (mark_at marks k))

all_next : (a b c : List WaitMark) → AllLater a b → AllLater b c → AllLater a c
all_next a b c h g k l = ((g k (h k l).0).0, later_next (mark_at a k) (mark_at b k) (mark_at c k) (h k l).1 (g k (h k l).0).1)

all_set : (marks : List WaitMark) (i : ℕ) (m : WaitMark) → IsLater (mark_at marks i) m → AllLater marks (slice_set marks i m)
all_set marks i m h k l = (omega (arith, l, length-set marks i m), set_keeps IsLater later_same marks i m no_mark h k)

all_push : (marks : List WaitMark) (m : WaitMark) → AllLater marks (marks ++ m ∷ [])
all_push marks m k l = (omega (arith, l, length_push marks m), rw (get_or_append_left marks (m ∷ []) no_mark k l) (later_same (mark_at marks k)))

-- STAGE BY STAGE

later_got : (m : WaitMark) → IsLater m (record m { got = true })
later_got m = record { requester = refl; serial = refl; wants = refl; first = refl; got = λ e. refl }

all_with_got : (o : Owner) (marks : List WaitMark) (mark : Option ℕ) → AllLater marks (with_got o marks mark)
all_with_got o marks None = all_same marks
all_with_got o marks (Some k) = elim (cases_Bool (is_of o marks (Some k))) [
  | inl t ↦ rw t (all_set marks k (record (mark_at marks k) { got = true }) (later_got (mark_at marks k)))
  | inr f ↦ rw f (all_same marks)
]

all_all_got : (o : Owner) (standing : List (Option ℕ)) (marks : List WaitMark) → AllLater marks (all_got o standing marks)
all_all_got o [] marks = all_same marks
all_all_got o (mark ∷ standing) marks = all_next marks (with_got o marks mark) (all_got o standing (with_got o marks mark)) (all_with_got o marks mark) (all_all_got o standing (with_got o marks mark))

later_used : (m : WaitMark) → IsLater m (used_once m)
later_used m = record { requester = refl; serial = refl; wants = refl; first = refl; got = λ e. e }

all_counted_in : (mark : Option ℕ) (marks : List WaitMark) → AllLater marks (counted_in mark marks)
all_counted_in None marks = all_same marks
all_counted_in (Some k) marks = all_set marks k (used_once (mark_at marks k)) (later_used (mark_at marks k))

all_counted : (c : ℕ) (b : Bool) (l : WaitLog) → AllLater l.marks (with_use c b l).marks
all_counted c true l = all_counted_in (standing_at l c) l.marks
all_counted c false l = all_same l.marks

later_allowed : (left : ℕ) (m : WaitMark) → IsLater m (more_allowed left m)
later_allowed left m = record { requester = refl; serial = refl; wants = refl; first = refl; got = λ e. e }

all_chained : (link : Link) (l : WaitLog) → AllLater l.marks (chained link l).marks
all_chained link l = elim (cases_Bool (is_linked link l.links)) [
  | inl t ↦ rw t (all_same l.marks)
  | inr f ↦ rw f (all_set l.marks link.mark (more_allowed link.left (mark_at l.marks link.mark)) (later_allowed link.left (mark_at l.marks link.mark)))
]

all_held_up_by : (c : ℕ) (b : Bool) (v : ContextSeen) (wanted : Want) (holder : ContextSeen) (mark : Option ℕ) (l : WaitLog) → AllLater l.marks (held_up_by c b v wanted holder mark l).marks
all_held_up_by c true v wanted holder None l = all_same l.marks
all_held_up_by c true v wanted holder (Some k) l = all_chained (link_of k holder wanted) l
all_held_up_by c false v wanted holder None l = all_push l.marks (mark_of v wanted (length l.links) (link_of (length l.marks) holder wanted).left)
all_held_up_by c false v wanted holder (Some k) l = all_same l.marks

all_held_up : (c : ℕ) (b : Bool) (v : ContextSeen) (wanted : Want) (holder : Option ContextSeen) (l : WaitLog) → AllLater l.marks (held_up c b v wanted holder l).marks
all_held_up c b v wanted None l = all_same l.marks
all_held_up c b v wanted (Some holder) l = all_held_up_by c b v wanted holder (standing_at l c) l

all_by : (w : World) (c : ℕ) (b : Bool) (course : Course) (l : WaitLog) → AllLater l.marks (waits_by w c b course l).marks
all_by w c b Still l = all_same l.marks
all_by w c b (Onward v) l = all_next l.marks (got_by (owner_of v) l).marks (with_use c (has_mark v) (got_by (owner_of v) l)).marks (all_all_got (owner_of v) l.standing l.marks) (all_counted c (has_mark v) (got_by (owner_of v) l))
all_by w c b (HeldUp v wanted i) l = all_held_up c b v wanted (context_at w i) l

dropped_marks : (c : ℕ) (b : Bool) (l : WaitLog) → (dropped c b l).marks ≡ l.marks
dropped_marks c true l = refl
dropped_marks c false l = refl

all_after : (w : World) (s : CarrierStep) → AllLater w.waits.marks (waits_after w s).marks
all_after w s = rw (dropped_marks s.number (not (same_goal s.before.goal (carrier_after s).goal)) (waits_by w s.number (is_helping s.asked s.asked.hand) (course_in s) (unbroken_waits w)))
    (all_by w s.number (is_helping s.asked s.asked.hand) (course_in s) (unbroken_waits w))

pub waits_later : (script : Script) (c : ℕ) (w : World) (k : ℕ) → k < length w.waits.marks → (k < length (moved script c w).waits.marks) × IsLater (mark_at w.waits.marks k) (mark_at (moved script c w).waits.marks k)
unfolding moved
waits_later script c w k l = all_after w (step_in script c w) k l

-- THE HISTORY

history_with : (w : World) (s : CarrierStep) (a : AnswerSeen) → is_section a ≡ false → (script : Script) → (moved_by script w (record s { answer = a })).history ≡ w.history
history_with w s (answer.Section a) e script = absurd cc
history_with w s (answer.Looked bits) e script = refl
history_with w s (answer.Took v) e script = refl
history_with w s (answer.TakeLost found) e script = refl
history_with w s answer.Given e script = refl

pub history_stays : (script : Script) (w : World) (s : CarrierStep) → is_section s.answer ≡ false → (moved_by script w s).history ≡ w.history
history_stays script w s e = history_with w s s.answer e script
