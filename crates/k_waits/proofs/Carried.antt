-- A mark stands on in another world that shows the same board, with the same contexts, of a carrier that works for the same.
use Rattle.std.proofs.Common.{◌≡◌, ℕ, sym, ◌∙◌, subst, Option, Some, None, List, ◌⊎◌, inl, inr}
use Rattle.std.specs.Prelude.{◌||◌, is_some}
use Rattle.std.specs.List.{AllByRecursion}
use Rattle.k_lists.proofs.All.{all_weaker}
use Rattle.k_script.specs.Script.{Script}
use Rattle.k_context.specs.declared.owner.Owner.{Owner}
use Rattle.k_carrier.specs.declared.marks.Link.{Link}
use Rattle.k_carrier.specs.declared.marks.WaitMark.{WaitMark}
use Rattle.k_carrier.specs.declared.moves.Help.{Help}
use Rattle.k_carrier.specs.Running.{runner_of}
use Rattle.k_world.specs.Lawful.{links_of}
use Rattle.k_world.specs.Marks.{mark_at}
use Rattle.k_world.specs.Worlds.{World, carrier_at}
use Rattle.k_board.specs.Boards.{Board}
use Rattle.k_bound.specs.Chains.{IsMarkSound}
use Rattle.k_bound.specs.Hands.{live_help}
use Rattle.k_bound.specs.Sections.{Sections}
use Rattle.k_bound.specs.Waits as bound
use Rattle.k_aligned.specs.Aligned.{found_in}
use Rattle.k_places.specs.Shows.{ShowsBoard}
use Rattle.k_waits.specs.Waits.{IsSameOwner, IsWaitingFor, sections_of}
use Rattle.k_waits.specs.Words.{ShowsMark, found_in_help, number_of}

-- The second world has the boards, the contexts, the marks and the links of the first; its carrier works for whom it did, and
-- helps whom it did, or nobody.
pub record IsCarried (script : Script) (w w' : World) : Type 0 where
  pub shows : (b : Board) → ShowsBoard script w b → ShowsBoard script w' b
  pub found : (i : ℕ) → found_in w' i ≡ found_in w i
  pub runner : runner_of (carrier_at w' 0) ≡ runner_of (carrier_at w 0)
  pub works : ((carrier_at w' 0).switching || is_some (carrier_at w' 0).goal)
      ≡ ((carrier_at w 0).switching || is_some (carrier_at w 0).goal)
  pub help : ((carrier_at w' 0).help ≡ (carrier_at w 0).help) ⊎ ((carrier_at w' 0).help ≡ None)
  pub marks : w'.waits.marks ≡ w.waits.marks
  pub links : w'.waits.links ≡ w.waits.links

-- without the help a mark stands all the same
pub without_help : {S : Type 0} (k : Sections S) (s : S) (r : ℕ) (help : Option bound.OwnerFound) (mark : bound.WaitMark) →
    IsMarkSound k s r help (Some mark) → IsMarkSound k s r None (Some mark)
without_help k s r help mark ok = let st = ok.1 in (
  ok.0,
  record {
    chained = st.chained;
    asks = st.asks;
    linked = st.linked;
    known = st.known;
    free = st.free;
    bound = st.bound;
    once = st.once;
    by_owners = st.by_owners;
    counted = st.counted;
    each = st.each;
    each_rest = st.each_rest;
    helps = λ f e. absurd cc;
  },
)

pub carried : (script : Script) (w w' : World) (k : ℕ) (o : Owner) → IsCarried script w w' → IsWaitingFor script w k o →
    IsWaitingFor script w' k o
carried script w w' k o c h = record {
  situation = h.situation;
  shows = c.shows h.situation.board h.shows;
  good = h.good;
  gone = λ want e. let g = h.gone want e in record {
    absent = λ v f. g.absent v (sym (c.found (number_of script.table o)) ∙ f);
    past = g.past;
  };
  runner = c.runner ∙ h.runner;
  works = c.works ∙ h.works;
  mark = h.mark;
  shown =
      subst (λ (ms : List WaitMark). ShowsMark script.table k (mark_at ms k) w'.waits.links h.mark) (sym c.marks)
      (subst (λ (ls : List Link). ShowsMark script.table k (mark_at w.waits.marks k) ls h.mark) (sym c.links) h.shown);
  sound = sound;
  same =
      subst (λ (ls : List Link). AllByRecursion (IsSameOwner script w') (links_of k ls)) (sym c.links)
      (all_weaker (IsSameOwner script w) (IsSameOwner script w')
      (λ link q v f. q v (sym (c.found (number_of script.table link.owner)) ∙ f)) (links_of k w.waits.links) h.same);
}
  where
    sound : IsMarkSound (sections_of script) h.situation (number_of script.table o)
        (live_help (sections_of script) h.situation (found_in_help (carrier_at w' 0).help)) (Some h.mark)
    sound = elim c.help [
      | inl e ↦
          subst (λ (p : Option Help). IsMarkSound (sections_of script) h.situation (number_of script.table o)
          (live_help (sections_of script) h.situation (found_in_help p)) (Some h.mark)) (sym e) h.sound
      | inr e ↦
          subst (λ (p : Option Help). IsMarkSound (sections_of script) h.situation (number_of script.table o)
          (live_help (sections_of script) h.situation (found_in_help p)) (Some h.mark)) (sym e)
          (without_help (sections_of script) h.situation (number_of script.table o) _ h.mark h.sound)
    ]
