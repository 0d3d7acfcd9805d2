-- The facts of all contexts hold after a step of one of them.
use Rattle.std.proofs.Common.{◌≡◌, ◌≢◌, ℕ, refl, sym, subst, Some, ◌⊎◌, inl, inr}
use Rattle.std.proofs.lemmas.Bool.Decides.{eqb_tells}
use Rattle.k_board.specs.Words.{Programs}
use Rattle.k_board.specs.Boards.{At, Alone, InSend, InReceive, InCreate, InDestroy, InSwitch, Resting, Coming, Nowhere, Context, Board}
use Rattle.k_board.specs.Facts.{AllSay}
use Rattle.k_board.specs.Places.{PlacesHold, facts_of}
use Rattle.k_board.specs.Moves.{IsAway, PlaceStep}
use Rattle.k_board.proofs.Stays.{all_stay}

module _ (g : Programs) (b b' : Board) (i : ℕ) (x : Context) (there : IsAway (b.context i).at → ⊥) (step : PlaceStep g b i x b') (moved : (n : ℕ) → n ≢ i → (b'.context n ≡ b.context n) ⊎ ((b.table ≡ Some i) × AllSay g b' n (b'.context n) (facts_of (b'.context n).at))) where
  -- a context that is away isn't the one that steps, and only the owner of the table lock changes it
  away_stays : (k : ℕ) → k ≢ i → (n : ℕ) → b.table ≡ Some k → IsAway (b.context n).at → b'.context n ≡ b.context n
  away_stays k ne n t a = go (moved n (λ e. there (subst (λ (m : ℕ). IsAway (b.context m).at) e a)))
    where
      go : (b'.context n ≡ b.context n) ⊎ ((b.table ≡ Some i) × AllSay g b' n (b'.context n) (facts_of (b'.context n).at)) → b'.context n ≡ b.context n
      go (inl e) = e
      go (inr h) = absurd (ne cc)

  other : (k : ℕ) → k ≢ i → ((b.context k).at ≡ Coming → ⊥) → AllSay g b k (b.context k) (facts_of (b.context k).at) → AllSay g b' k (b.context k) (facts_of (b.context k).at)
  other k ne here h = all_stay g b b' k i ne here step.changes (step.others k ne) (away_stays k ne) (b.context k) (facts_of (b.context k).at) h

  by_place : (k : ℕ) → k ≢ i → (p : At) → (b.context k).at ≡ p → AllSay g b k (b.context k) (facts_of (b.context k).at) → AllSay g b' k (b.context k) (facts_of (b.context k).at)
  by_place k ne Coming e h = subst (λ (p : At). AllSay g b' k (b.context k) (facts_of p)) (sym e) tt
  by_place k ne Nowhere e h = other k ne (λ q. absurd cc) h
  by_place k ne Resting e h = other k ne (λ q. absurd cc) h
  by_place k ne (Alone p) e h = other k ne (λ q. absurd cc) h
  by_place k ne (InSend c p) e h = other k ne (λ q. absurd cc) h
  by_place k ne (InReceive c p) e h = other k ne (λ q. absurd cc) h
  by_place k ne (InCreate c p) e h = other k ne (λ q. absurd cc) h
  by_place k ne (InDestroy c p) e h = other k ne (λ q. absurd cc) h
  by_place k ne (InSwitch c p) e h = other k ne (λ q. absurd cc) h

  pub places_kept : b'.context i ≡ x → PlacesHold g b → PlacesHold g b'
  places_kept at h k = elim (eqb_tells k i) [ inl e ↦ subst (λ (n : ℕ). AllSay g b' n (b'.context n) (facts_of (b'.context n).at)) (sym e.1) (subst (λ (y : Context). AllSay g b' i y (facts_of y.at)) (sym at) step.facts) | inr e ↦ go (moved k e.1) e.1 ]
    where
      go : (b'.context k ≡ b.context k) ⊎ ((b.table ≡ Some i) × AllSay g b' k (b'.context k) (facts_of (b'.context k).at)) → k ≢ i → AllSay g b' k (b'.context k) (facts_of (b'.context k).at)
      go (inl e) ne = subst (λ (y : Context). AllSay g b' k y (facts_of y.at)) (sym e) (by_place k ne (b.context k).at refl (h k))
      go (inr f) ne = f.1
