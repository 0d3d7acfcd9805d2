-- The lines judged so far, and what is said of the line behind them.
use Rattle.std.proofs.Common.{◌≡◌, ℕ, ◌+◌, true, List, [], ◌∷◌, ◌++◌, length, refl, sym, ap, subst, ◌∙◌, arith, append_assoc, length-append, Option, Some, Ok}
use Rattle.std.proofs.lemmas.List.{append-nil}
use Rattle.std.proofs.lemmas.Bool.{and_parts}
use Rattle.k_ids.specs.declared.threads.ThreadId.{ThreadId}
use Rattle.k_ids.specs.declared.calls.Phase.{Phase}
use Rattle.k_ids.specs.declared.calls.Reply.{Reply}
use Rattle.k_ids.specs.declared.calls.Act.{Act}
use Rattle.k_ids.specs.declared.calls.Act.TheVariants as act
use Rattle.k_ids.specs.declared.calls.Outcome.{Outcome}
use Rattle.k_ids.specs.declared.histories.Event.{Event}
use Rattle.k_ids.specs.declared.histories.Entry.{Entry}
use Rattle.k_model.specs.State.{KernelState}
use Rattle.k_model.specs.Step.{step, may_act}
use Rattle.k_model.specs.Answered.{reply_to}
use Rattle.k_model.specs.Keeps.{is_settled}
use Rattle.k_model.proofs.Sound.{run_from}
use Rattle.k_script.specs.Script.{Script}
use Rattle.k_script.specs.Plays.{Position, Runs, moved, phase_next, reply_before, start_of}
use Rattle.k_positions.specs.Positions.{IsNextAct, reply_to_last}
use Rattle.k_positions.proofs.Playing.{IsAt, IsPlaying}
use Rattle.k_positions.proofs.Histories.{step_gives}
use Rattle.k_positions.proofs.Plays.{caller_at}
use Rattle.k_positions.proofs.Going.{goes_on}
use Rattle.k_history.specs.declared.verdict.Verdict.{Verdict}
use Rattle.k_history.specs.declared.verdict.Verdict.TheVariants as verdict
use Rattle.k_lines.specs.Words.{lines_of}
use Rattle.k_history.specs.Lines.{Tells, TellAll}
use Rattle.k_room.proofs.Stands.{runs_one}
use Rattle.k_room.proofs.Wholes.{follows_from}
use Rattle.k_history.specs.Verdicts.{IsDue, IsDueAct, IsFault, IsFirstFault, IsVerdict}
use Rattle.k_history.specs.Judging.{IsJudged, IsLast, LineGoesOn}

-- THE LINES SO FAR are those of a legal, playing history.
pub record Checked (script : Script) (bytes rest : List ℕ) (index : ℕ) (k : KernelState) (at : ℕ → Position) : Type 0 where
  pub before : List (List ℕ)
  pub front : List Entry
  pub lines : lines_of bytes ≡ before ++ lines_of rest
  pub tell : TellAll script.table before front
  pub count : index ≡ length front
  pub playing : IsPlaying script front k at

pub tell_more : (size : ℕ) (lines : List (List ℕ)) (es : List Entry) (line : List ℕ) (e : Entry) → TellAll size lines es → Tells size line e → TellAll size (lines ++ line ∷ []) (es ++ e ∷ [])
tell_more size [] [] line e h t = (t, tt)
tell_more size [] (x ∷ es) line e h t = absurd h
tell_more size (l ∷ lines) [] line e h t = absurd h
tell_more size (l ∷ lines) (x ∷ es) line e h t = (h.0, tell_more size lines es line e h.1 t)

pub checked_first : (script : Script) (bytes : List ℕ) (k : KernelState) (at : ℕ → Position) → IsPlaying script [] k at → Checked script bytes bytes 0 k at
checked_first script bytes k at p = record { before = []; front = []; lines = refl; tell = tt; count = refl; playing = p }

pub checked_more : (script : Script) (bytes rest line after : List ℕ) (index : ℕ) (k n : KernelState) (at to : ℕ → Position) → Checked script bytes rest index k at → lines_of rest ≡ line ∷ lines_of after → LineGoesOn script k at line n to → Checked script bytes after (index + 1) n to
checked_more script bytes rest line after index k n at to c split g = record {
  before = c.before ++ line ∷ [];
  front = c.front ++ g.entry ∷ [];
  lines = c.lines ∙ ap (λ (ls : List (List ℕ)). c.before ++ ls) split ∙ sym (append_assoc c.before (line ∷ []) (lines_of after));
  tell = tell_more script.table c.before c.front line g.entry c.tell g.tells;
  count = omega (arith, c.count, length-append c.front (g.entry ∷ []));
  playing = goes_on script c.front k n at to g.entry c.playing g.goes.made g.goes.next g.goes.moves;
}

-- A PLAYING HISTORY gives each thread's next call.

before_next : (k : KernelState) (who : ThreadId) → reply_before k who ((k.place who.number).serial + 1) ≡ reply_to_last k who
before_next k who = ap (λ (s : ℕ). reply_to k.replies who s) (omega arith)

module _ (script : Script) (es : List Entry) (k n : KernelState) (at : ℕ → Position) (e : Event) (o : Outcome) (p : IsPlaying script es k at) (ok : step k e ≡ Ok (n, o)) where
  abbrev may : may_act k e.who e.serial e.act ≡ true
  may = (step_gives k n e o ok).0

  here : IsAt script es k e.who (at e.who.number)
  here = caller_at script es k n at e.who e.serial e.act o may (step_gives k n e o ok).1 p

  -- the call that is due, where the event is a call
  due_is : (phase : Phase) → e.act ≡ act.Call phase → phase ≡ phase_next script.version (at e.who.number) (reply_to_last k e.who) → IsDue script es k e.who phase
  due_is phase is next =
      let h = here in
      let call : may_act k e.who e.serial (act.Call phase) ≡ true = subst (λ (a : Act). may_act k e.who e.serial a ≡ true) is may in
      let run = run_from (k.place e.who.number).status (and_parts _ _ (and_parts _ _ call).0).1 in
      record {
        program = h.program;
        named = h.is;
        position = at e.who.number;
        next = (k.place e.who.number).serial + 1;
        runs = h.runs;
        going = h.going (ap is_settled run);
        is = next ∙ ap (λ (r : Option Reply). phase_next script.version (at e.who.number) r) (sym (before_next k e.who));
      }

  due_next : (phase : Phase) → IsDue script es k e.who phase → phase ≡ phase_next script.version (at e.who.number) (reply_to_last k e.who)
  due_next phase d =
      let h = here in
      let named : Some d.program ≡ Some h.program = sym d.named ∙ h.is in
      let same : d.program ≡ h.program = cc in
      let mine : Runs script.version (reply_before k e.who) (start_of script d.program e.who) 1 _ (at e.who.number) ((k.place e.who.number).serial + 1) = subst (λ (m : ℕ). Runs script.version (reply_before k e.who) (start_of script m e.who) 1 _ (at e.who.number) ((k.place e.who.number).serial + 1)) (sym same) h.runs in
      let one = runs_one script.version (reply_before k e.who) (start_of script d.program e.who) d.position (at e.who.number) 1 d.next ((k.place e.who.number).serial + 1) _ d.runs mine in
      d.is ∙ ap (λ (q : Position). phase_next script.version q (reply_before k e.who d.next)) one.0
      ∙ ap (λ (r : Option Reply). phase_next script.version (at e.who.number) r) (ap (λ (s : ℕ). reply_before k e.who s) one.1 ∙ before_next k e.who)

  pub due_from : (a : Act) → e.act ≡ a → IsNextAct script k at e.who a → IsDueAct script es k e.who a
  due_from (act.Call phase) is next = due_is phase is next
  due_from act.Gone is next = tt
  due_from act.Pick is next = tt

  pub next_from : (a : Act) → IsDueAct script es k e.who a → IsNextAct script k at e.who a
  next_from (act.Call phase) d = due_next phase d
  next_from act.Gone d = tt
  next_from act.Pick d = tt

-- WHAT IS SAID OF A LINE

module _ (script : Script) (bytes rest line after : List ℕ) (index : ℕ) (k : KernelState) (at : ℕ → Position) (c : Checked script bytes rest index k at) (split : lines_of rest ≡ line ∷ lines_of after) where
  first_fault : (v : Verdict) → IsFault script c.front k line v → IsFirstFault script bytes v
  first_fault v f = record {
    before = c.before;
    line = line;
    behind = lines_of after;
    lines = c.lines ∙ ap (λ (ls : List (List ℕ)). c.before ++ ls) split;
    front = c.front;
    tell = c.tell;
    state = k;
    follows = follows_from script c.front k at c.playing;
    fault = f;
  }

  pub says : (v : Verdict) → IsJudged script k at index line v → IsVerdict script bytes v
  says (verdict.Unreadable number) h = first_fault (verdict.Unreadable number) (omega (arith, h.0, c.count), h.1)
  says (verdict.Illegal i found serial) h = first_fault (verdict.Illegal i found serial) (h.stops.0 ∙ c.count, record { entry = h.entry; tells = h.tells; shown = h.stops.1 })
  says (verdict.Strange i) h =
      let e = h.entry.event in
      let made = h.stops.1 in
      first_fault (verdict.Strange i) (
        h.stops.0 ∙ c.count,
        record {
          entry = h.entry;
          tells = h.tells;
          after = made.0;
          made = made.1;
          other = λ d. h.stops.2 (next_from script c.front k made.0.0 at e made.0.1 c.playing made.1 e.act d);
        },
      )
  says (verdict.Differs i outcome) h =
      let e = h.entry.event in
      let made = h.stops.1 in
      first_fault (verdict.Differs i outcome) (
        h.stops.0 ∙ c.count,
        record {
          entry = h.entry;
          tells = h.tells;
          after = made.0;
          made = made.1;
          due = due_from script c.front k made.0 at e outcome c.playing made.1 e.act refl h.stops.2;
          other = h.stops.3;
        },
      )
  says (verdict.Legal events) h = absurd h
  says (verdict.Unfinished who) h = absurd h

-- BEHIND THE LAST LINE

pub ends : (script : Script) (bytes : List ℕ) (index : ℕ) (k : KernelState) (at : ℕ → Position) (v : Verdict) → Checked script bytes [] index k at → IsLast k index v → IsVerdict script bytes v
ends script bytes index k at (verdict.Legal events) c h =
    let lines : lines_of bytes ≡ c.before = c.lines ∙ append-nil c.before in
    let f = follows_from script c.front k at c.playing in
    record {
      entries = c.front;
      tell = subst (λ (ls : List (List ℕ)). TellAll script.table ls c.front) (sym lines) c.tell;
      count = h.0 ∙ c.count;
      end = k;
      history = record { legal = f.legal; plays = f.plays; finished = h.1 };
    }
ends script bytes index k at (verdict.Unfinished who) c h =
    let lines : lines_of bytes ≡ c.before = c.lines ∙ append-nil c.before in
    record {
      entries = c.front;
      tell = subst (λ (ls : List (List ℕ)). TellAll script.table ls c.front) (sym lines) c.tell;
      end = k;
      follows = follows_from script c.front k at c.playing;
      lowest = h;
    }
ends script bytes index k at (verdict.Unreadable number) c h = absurd h
ends script bytes index k at (verdict.Illegal i found serial) c h = absurd h
ends script bytes index k at (verdict.Strange i) c h = absurd h
ends script bytes index k at (verdict.Differs i outcome) c h = absurd h

pub empty_from : (xs : List ℕ) → length xs ≡ 0 → xs ≡ []
empty_from [] h = refl
empty_from (x ∷ xs) h = absurd (omega arith)
