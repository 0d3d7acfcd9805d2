-- A step of the running kernel and the history.
use Rattle.std.proofs.Common.{◌≡◌, refl, sym, ap, ◌∙◌, subst, Option, Some, None, Ok, List, [], ◌∷◌, ◌++◌}
use Rattle.k_ids.specs.declared.histories.Entry.{Entry}
use Rattle.k_model.specs.History.{IsReplay}
use Rattle.k_model.specs.State.{KernelState}
use Rattle.k_model.specs.Step.{step}
use Rattle.k_script.specs.Plays.{opened_for}
use Rattle.k_script.specs.Script.{Script}
use Rattle.k_room.specs.Histories.{Follows}
use Rattle.k_room.proofs.Fronts.{replay_one}
use Rattle.k_world.specs.Steps.{recorded}
use Rattle.k_world.specs.Worlds.{World}
use Rattle.k_legal.specs.Follows.{IsFollowed}
use Rattle.k_running.specs.Running.{KernelHolds}
use Rattle.k_told.specs.Events.{IsAt, IsEventOf}

-- THE LAST EVENT of a history

pub record EndsWith (old : KernelState) (es : List Entry) (e : Entry) (new : KernelState) : Type 0 where
  pub mid : KernelState
  pub before : IsReplay old es mid
  pub made : step mid e.event ≡ Ok (new, e.outcome)

pub last_event : (old new : KernelState) (es : List Entry) (e : Entry) → IsReplay old (es ++ e ∷ []) new → EndsWith old es e new
last_event old new [] e r = record {
  mid = old;
  before = refl;
  made = subst (λ (k : KernelState). step old e.event ≡ Ok (k, e.outcome)) (sym r.2) r.1;
}
last_event old new (x ∷ es) e r =
    let m = last_event r.0 new es e r.2 in record { mid = m.mid; before = (r.0, r.1, m.before); made = m.made }

-- THE STATE that a history leaves is one, and is shown

module _ (script : Script) (w : World) (h : KernelHolds script w) (k : KernelState) (f : Follows script w.history k) where
  pub state_is : h.state ≡ k
  state_is = replay_one (opened_for script) w.history h.state k h.whole.holds.ledgers.leads.follows.legal f.legal

  pub is_at : IsAt script w k
  is_at = record {
    follows = f;
    shown = record {
      board = h.board;
      shows = h.aligned.shows;
      followed = subst (IsFollowed h.board) state_is h.whole.holds.followed;
    };
  }

-- A STEP, from a world to another that has grown by this entry, or by none

module _ (script : Script) (w w' : World) (after : KernelHolds script w') (made : Option Entry)
    (grown : w'.history ≡ recorded made w.history) (k : KernelState) (f : Follows script w.history k) where
  pub makes_event : (e : Entry) → made ≡ Some e → IsEventOf script k e w'
  makes_event e q =
      let now : Follows script w'.history after.state = after.whole.holds.ledgers.leads.follows in
      let longer : w'.history ≡ w.history ++ e ∷ [] = grown ∙ ap (λ o. recorded o w.history) q in
      let ends = last_event (opened_for script) after.state w.history e
      (subst (λ (es : List Entry). IsReplay (opened_for script) es after.state) longer now.legal) in
      let same : ends.mid ≡ k = replay_one (opened_for script) w.history ends.mid k ends.before f.legal in
      record {
        new = after.state;
        made = subst (λ (m : KernelState). step m e.event ≡ Ok (after.state, e.outcome)) same ends.made;
        now = is_at script w' after after.state now;
      }

  pub makes_nothing : made ≡ None → IsAt script w' k
  makes_nothing q =
      let same : w'.history ≡ w.history = grown ∙ ap (λ o. recorded o w.history) q in
      is_at script w' after k (subst (λ (es : List Entry). Follows script es k) (sym same) f)
