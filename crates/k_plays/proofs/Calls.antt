-- A program's next call, over works.
use Rattle.std.proofs.Common.{◌≡◌, ℕ, refl, sym, ◌∙◌, subst, Option, None}
use Rattle.k_board.specs.Words.{Begins, Programs, Walks, here, works}
use Rattle.k_ids.specs.declared.calls.Phase.{Phase}
use Rattle.k_ids.specs.declared.calls.Reply.{Reply}
use Rattle.k_plays.proofs.Messages.{moved_filled, next_words, went_filled}
use Rattle.k_plays.specs.Messages.{IsFilled, SendsWords}
use Rattle.k_plays.specs.Scripts.{AreOf, IsInBounds}
use Rattle.k_script.proofs.Onward.{calls_on, works_on}
use Rattle.k_script.proofs.Within.{next_within, work_in_range}
use Rattle.k_script.specs.Plays.{IsWithin, NamesInRange, Position, moved, next_of, phase_next}
use Rattle.k_script.specs.Script.{Script}
use Rattle.k_script.specs.declared.registers.Next.TheVariants as next

-- Over works the program stays within the script, and the phase that is due stays the same.
pub record IsWalked (script : Script) (p : Position) (r : Option Reply) (q : Position) (l : Option Reply) : Type 0 where
  pub bounds : IsInBounds script q l
  pub due : phase_next script.version q l ≡ phase_next script.version p r
  pub behind : moved q l ≡ moved p r

module _ (script : Script) (g : Programs) (are : AreOf script g) where
  worked : (p : Position) (r : Option Reply) (q : Position) (l : Option Reply) (count : ℕ) → IsWalked script p r q l →
      g.next q l ≡ next.Work count → IsWalked script p r (g.moved q l) None
  worked p r q l count h e =
      let is : next_of script.version q l ≡ next.Work count = sym (are.gives q l h.bounds) ∙ e in
      let w = works_on script.version count q l is in
      subst (λ (x : Position). IsWalked script p r x None) (sym (are.leads q l)) (record {
        bounds = record {
          within = (work_in_range script script.version count q l h.bounds.within h.bounds.told is).2;
          filled = went_filled q l h.bounds.filled h.bounds.words;
          told = tt;
          words = tt;
        };
        due = w.phase ∙ h.due;
        behind = w.moved ∙ h.behind;
      })

  pub walked : (p : Position) (r : Option Reply) (q : Position) (l : Option Reply) → IsInBounds script p r → Walks g p r q l →
      IsWalked script p r q l
  walked p r _ _ b here = record { bounds = b; due = refl; behind = refl }
  walked p r _ _ b (works q l count before e) = worked p r q l count (walked p r q l b before) e

-- The call that a program gives is its next phase, and leaves it where that does.
pub record IsNext (script : Script) (p : Position) (r : Option Reply) (f : Phase) (after : Position) : Type 0 where
  pub phase : f ≡ phase_next script.version p r
  pub leads : after ≡ moved p r

pub begins_next : (script : Script) (g : Programs) (p : Position) (r : Option Reply) (f : Phase) (after : Position) →
    AreOf script g → IsInBounds script p r → Begins g p r f after → IsNext script p r f after
begins_next script g p r f after are bounds b =
    let h = walked script g are p r b.at b.last bounds b.walk in
    let is : next_of script.version b.at b.last ≡ next.Phase f = sym (are.gives b.at b.last h.bounds) ∙ b.call in
    let c = calls_on script.version b.at b.last f is in
    record {
      phase = c.phase ∙ h.due;
      leads = b.moved ∙ are.leads b.at b.last ∙ c.moved ∙ h.behind;
    }

-- It names threads of the table and sends two words, and the program stays within the script.
pub next_in_bounds : (script : Script) (p : Position) (r : Option Reply) (f : Phase) (after : Position) → IsInBounds script p r →
    IsNext script p r f after → (NamesInRange script f × SendsWords f) × (IsWithin script after × IsFilled after)
next_in_bounds script p r f after b h =
    let n = next_within script script.version p r b.within b.told in
    let sends = next_words script p r b.within b.filled b.words in
    let filled = moved_filled p r b.filled b.words in (
      (subst (NamesInRange script) (sym h.phase) n.0, subst SendsWords (sym h.phase) sends),
      (subst (IsWithin script) (sym h.leads) n.1, subst IsFilled (sym h.leads) filled),
    )
