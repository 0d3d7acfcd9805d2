-- The turns of a thread outside of any section.
use Rattle.std.specs.Prelude.{◌==◌}
use Rattle.std.proofs.Common.{◌≡◌, ℕ, Bool, true, false, cond, refl, sym, ap, ◌∙◌, subst, Option, not, inl, inr}
use Rattle.k_ids.specs.declared.threads.ThreadId.{ThreadId}
use Rattle.k_ids.specs.declared.calls.Phase.{Phase}
use Rattle.k_ids.specs.declared.calls.Phase.TheVariants as phase
use Rattle.k_ids.specs.declared.calls.Reply.{Reply}
use Rattle.k_ids.specs.declared.state_word.Result4.{Result4}
use Rattle.k_ids.specs.declared.state_word.Result4.TheVariants as result4
use Rattle.k_ids.specs.declared.state_word.State.{State}
use Rattle.k_ids.specs.declared.state_word.State.TheVariants as state
use Rattle.k_ids.specs.declared.state_word.StateWord.{StateWord}
use Rattle.k_locks.specs.Asks.{Response}
use Rattle.k_locks.specs.Asks as asks
use Rattle.k_locks.specs.Shown.{is_dead, is_dead_state}
use Rattle.k_caller.specs.declared.thread.ThreadLocation.{ThreadLocation}
use Rattle.k_caller.specs.declared.thread.ThreadLocation.TheVariants.{Between, FallAsleep, LookAgain, LoadMail}
use Rattle.k_caller.specs.declared.thread.ThreadLocation.TheVariants.{Work, CommitEnd, Asleep, Ended, Dead}
use Rattle.k_caller.specs.Waits.{can_ask, ended_word, is_waiting, looked, looked_run, off_word, worked}
use Rattle.k_caller.specs.Waits as alone
use Rattle.k_board.specs.Words.{Programs}
use Rattle.k_board.specs.Boards.{At, Alone, Board, Context, id_at}
use Rattle.k_board.specs.Facts.{AllSay, IsOr}
use Rattle.k_board.specs.Places.{facts_alone}
use Rattle.k_board.specs.Steps.{Answers, alone_board, alone_context, begun, begun_at, placed, working}
use Rattle.k_board.proofs.Cases.{if_cases}
use Rattle.k_tokens.specs.World.{World}
use Rattle.k_tokens.proofs.Views.{view_upd}
use Rattle.k_grants.specs.Views.{look_at, sights_of}
use Rattle.k_grants.specs.Granted.{Agrees, Finding}
use Rattle.k_grants.proofs.Granting.{IsDying, IsMoved, IsQuiet}
use Rattle.k_grants.proofs.Looks.{dying, silent}
use Rattle.k_grants.proofs.Says.{Turned, silently}
use Rattle.k_grants.proofs.Sights.{sighted, sights_after}
use Rattle.k_grants.proofs.Tabling.{ends, falls_asleep}
use Rattle.k_grants.proofs.Turned as kinds
use Rattle.k_grants.proofs.Words.{waiting_alive}
use Rattle.k_grants.proofs.Worlds.{world_of}

begun_quiet : (l : Option Reply) (size : ℕ) (me : ThreadId) (f : Phase) → IsQuiet (Alone (Between l)) (begun_at size me f)
begun_quiet l size me (phase.Send to message zero joined) = silent refl refl refl refl
begun_quiet l size me (phase.Reply to message zero) = silent refl refl refl refl
begun_quiet l size me (phase.Receive from zero) = silent refl refl refl refl
begun_quiet l size me (phase.Create program priority) = silent refl refl refl refl
begun_quiet l size me (phase.Destroy who) = silent refl refl refl refl
begun_quiet l size me phase.End = silent refl refl refl refl

run_quiet : (r : Result4) → IsQuiet (Alone LookAgain) (Alone (looked_run r))
run_quiet result4.Sent = silent refl refl refl refl
run_quiet (result4.Delivered from) = silent refl refl refl refl
run_quiet result4.Gone = silent refl refl refl refl
run_quiet result4.Plain = silent refl refl refl refl

module _ (g : Programs) (b : Board) (w : World) (k i : ℕ) (a : Agrees b w) (finding : Finding) where
  abbrev After : ThreadLocation → Response → Board
  After p r = alone_board g b i (b.context i) p r

  abbrev Next : ThreadLocation → Response → At
  Next p r = Alone (alone.leads p r)

  moved : (p : ThreadLocation) (r : Response) → IsMoved b (After p r) i (Next p r)
  moved p r = record {
    size = refl;
    looks = view_upd (λ (y : Context). look_at y.at) b.context i (alone_context (b.context i) p r);
  }

  abbrev Stood : ThreadLocation → Response → Type 0
  Stood p r = Turned (After p r) (world_of w b) k i finding (asks.is_again r) (Next p r)

  abbrev Answered : ThreadLocation → Response → Type 0
  Answered p r = Answers b (alone.ask_of (id_at b i) (b.context i).own p) r

  seen_after : (p : ThreadLocation) (r : Response) → Answered p r →
      sights_of (After p r) ≡ sighted (sights_of b) (alone.ask_of (id_at b i) (b.context i).own p) r
  seen_after p r an =
      sights_after g b (b.context i).position (alone.points (id_at b i) p r) (alone.ask_of (id_at b i) (b.context i).own p) r an

  module _ (p : ThreadLocation) (r : Response) (at : (b.context i).at ≡ Alone p) (an : Answered p r)
      (e : sighted (sights_of b) (alone.ask_of (id_at b i) (b.context i).own p) r ≡ sights_of b) where
    goes : IsQuiet (Alone p) (Next p r) → Turned (After p r) (world_of w b) k i finding false (Next p r)
    goes h =
        kinds.goes w b k i a finding (Alone p) at (After p r) (Next p r) (moved p r) record { ready = refl; lists = refl } refl
        (seen_after p r an ∙ e) refl h

    dead : is_dead (b.seen i).word ≡ true → IsDying (Alone p) (Next p r) →
        Turned (After p r) (world_of w b) k i finding false (Next p r)
    dead d h =
        kinds.dead w b k i a finding (Alone p) at (After p r) (Next p r) (moved p r) record { ready = refl; lists = refl } refl
        (seen_after p r an ∙ e) d h

  looked_turned : (v : StateWord) → (b.context i).at ≡ Alone LookAgain → Answered LookAgain (asks.Word v) → (s : State) →
      v.state ≡ s → Stood LookAgain (asks.Word v)
  looked_turned v at an state.Dead e =
      dead LookAgain (asks.Word v) at an refl (ap is_dead an ∙ ap is_dead_state e)
      (subst (λ (s : State). IsDying (Alone LookAgain) (Alone (looked s))) (sym e) (dying refl refl refl refl))
  looked_turned v at an (state.Run r) e =
      goes LookAgain (asks.Word v) at an refl (subst (λ (s : State). IsQuiet (Alone LookAgain) (Alone (looked s))) (sym e)
      (run_quiet r))
  looked_turned v at an (state.Sending to joined) e =
      goes LookAgain (asks.Word v) at an refl (subst (λ (s : State). IsQuiet (Alone LookAgain) (Alone (looked s))) (sym e)
      (silent refl refl refl refl))
  looked_turned v at an (state.Receiving from) e =
      goes LookAgain (asks.Word v) at an refl (subst (λ (s : State). IsQuiet (Alone LookAgain) (Alone (looked s))) (sym e)
      (silent refl refl refl refl))
  looked_turned v at an state.Picking e =
      goes LookAgain (asks.Word v) at an refl (subst (λ (s : State). IsQuiet (Alone LookAgain) (Alone (looked s))) (sym e)
      (silent refl refl refl refl))
  looked_turned v at an state.Ended e =
      goes LookAgain (asks.Word v) at an refl (subst (λ (s : State). IsQuiet (Alone LookAgain) (Alone (looked s))) (sym e)
      (silent refl refl refl refl))

  worked_turned : (count : ℕ) (v : StateWord) → (b.context i).at ≡ Alone (Work count) → Answered (Work count) (asks.Word v) →
      (d : Bool) → is_dead v ≡ d → Stood (Work count) (asks.Word v)
  worked_turned count v at an true e =
      dead (Work count) (asks.Word v) at an refl (ap is_dead an ∙ e)
      (subst (λ (d : Bool). IsDying (Alone (Work count)) (Alone (cond d Dead (worked count)))) (sym e)
      (dying refl refl refl refl))
  worked_turned count v at an false e =
      goes (Work count) (asks.Word v) at an refl (subst (λ (d : Bool).
      IsQuiet (Alone (Work count)) (Alone (cond d Dead (worked count)))) (sym e)
      (if_cases (λ (q : ThreadLocation). IsQuiet (Alone (Work count)) (Alone q)) (count == 1) _ _
      (λ z. silent refl refl refl refl) (λ z. silent refl refl refl refl)))

  pub alone_turned : (p : ThreadLocation) (r : Response) → can_ask p ≡ true → (b.context i).at ≡ Alone p → Answered p r →
      AllSay g b i (b.context i) (facts_alone p) → Stood p r
  alone_turned FallAsleep asks.Won can at an h =
      silently (falls_asleep w b k i a finding (Alone FallAsleep) at (After FallAsleep asks.Won) (Alone Asleep)
      (moved FallAsleep asks.Won) record { ready = refl; lists = refl } (b.context i).own (off_word (b.context i).own)
      an (seen_after FallAsleep asks.Won an) refl (waiting_alive (b.context i).own.state h.1.1.1.0)
      record {
        coming = refl;
        locks = refl;
        push = refl;
        same = record { victim = refl; listed = refl; making = refl };
        free = refl;
      } refl refl) refl
  alone_turned FallAsleep (asks.Lost x) can at an h = goes FallAsleep (asks.Lost x) at an refl (silent refl refl refl refl)
  alone_turned LookAgain (asks.Word v) can at an h = looked_turned v at an v.state refl
  alone_turned (LoadMail from) (asks.Mail m) can at an h =
      goes (LoadMail from) (asks.Mail m) at an refl (silent refl refl refl refl)
  alone_turned (Work count) (asks.Word v) can at an h = worked_turned count v at an (is_dead v) refl
  alone_turned CommitEnd asks.Won can at an h =
      silently (ends w b k i a finding (Alone CommitEnd) at (After CommitEnd asks.Won) (Alone Ended)
      (moved CommitEnd asks.Won) record { ready = refl; lists = refl } (b.context i).own (ended_word (b.context i).own)
      an (seen_after CommitEnd asks.Won an) refl runs_on
      record {
        coming = refl;
        locks = refl;
        push = refl;
        same = record { victim = refl; listed = refl; making = refl };
        free = refl;
      }
      (λ z. record {
        version = (b.context i).own.version;
        present = not (sym runs_on z);
        on = false;
        ended = true;
        priority = (b.context i).own.priority;
      }) refl) refl
    where
      runs_on : is_dead (b.context i).own ≡ false
      runs_on = ap is_dead_state h.1.1.0.0.state
  alone_turned CommitEnd (asks.Lost x) can at an h =
      dead CommitEnd (asks.Lost x) at an refl (lost_dead h.1.1.0.1) (dying refl refl refl refl)
    where
      lost_dead : IsOr (b.seen i).word (b.context i).own → is_dead (b.seen i).word ≡ true
      lost_dead (inl e) = absurd (an.1 (sym an.0 ∙ e))
      lost_dead (inr d) = d
  alone_turned (Between l) r can at an h = absurd cc
  alone_turned Asleep r can at an h = absurd cc
  alone_turned Ended r can at an h = absurd cc
  alone_turned Dead r can at an h = absurd cc
  alone_turned p r can at an h = absurd an

  pub begins_turned : (l : Option Reply) (f : Phase) → (b.context i).at ≡ Alone (Between l)
      → Turned (placed b i (begun g (b.context i) l (begun_at b.size (id_at b i) f))) (world_of w b) k i finding false
      (begun_at b.size (id_at b i) f)
  begins_turned l f at =
      kinds.goes w b k i a finding (Alone (Between l)) at (placed b i (begun g (b.context i) l (begun_at b.size (id_at b i) f)))
      (begun_at b.size (id_at b i) f)
      record {
        size = refl;
        looks = view_upd (λ (y : Context). look_at y.at) b.context i
            (begun g (b.context i) l (begun_at b.size (id_at b i) f));
      }
      record { ready = refl; lists = refl } refl refl refl (begun_quiet l b.size (id_at b i) f)

  pub works_turned : (l : Option Reply) (count : ℕ) → (b.context i).at ≡ Alone (Between l)
      → Turned (placed b i (working g (b.context i) l count)) (world_of w b) k i finding false (Alone (Work count))
  works_turned l count at =
      kinds.goes w b k i a finding (Alone (Between l)) at (placed b i (working g (b.context i) l count)) (Alone (Work count))
      record { size = refl; looks = view_upd (λ (y : Context). look_at y.at) b.context i (working g (b.context i) l count) }
      record { ready = refl; lists = refl } refl refl refl (silent refl refl refl refl)
