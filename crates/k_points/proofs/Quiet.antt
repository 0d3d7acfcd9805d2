-- Steps that decide nothing leave what the board shows.
use Rattle.std.proofs.Common.{◌≡◌, ℕ, Bool, true, false, refl, sym, ap, ◌∙◌, subst, Option, Some, None, arith, inl, inr}
use Rattle.std.proofs.lemmas.Bool.{ne_eqb, eq-eqb}
use Rattle.std.proofs.lemmas.Bool.Decides.{eqb_tells}
use Rattle.k_ids.specs.declared.threads.ThreadId.{ThreadId}
use Rattle.k_ids.specs.declared.state_word.Result4.TheVariants as result4
use Rattle.k_ids.specs.declared.state_word.State.{State}
use Rattle.k_ids.specs.declared.state_word.State.TheVariants as state
use Rattle.k_model.specs.Maps.{upd}
use Rattle.k_model.proofs.Maps.{upd_same, upd_other}
use Rattle.k_ipc.specs.Words.{is_joined_to, on_in}
use Rattle.k_board.specs.Words.{Seen}
use Rattle.k_board.specs.Boards.{Board, Context}
use Rattle.k_board.specs.Facts.{is_open}
use Rattle.k_board.specs.Steps.{with_word}
use Rattle.k_board.specs.Turns.{excepts, excepted_by, is_number}
use Rattle.k_points.specs.Shown.{shown, shown_by}
use Rattle.k_points.proofs.Status.{excepted_same}

module _ (b : Board) (i : ℕ) (x' : Context) where
  pub still : excepts x'.at ≡ excepts (b.context i).at → (n : ℕ) →
      shown_by (excepted_by (b.owner n) (upd b.context i x') n) (b.seen n) ≡ shown b n
  still e n =
      ap (λ (d : Bool). shown_by d (b.seen n)) (excepted_same (b.owner n) b.context i x' n
      (ap (λ (o : Option ℕ). is_number o n) e))

  pub acquired_still : (t : ℕ) → b.owner t ≡ None → excepts x'.at ≡ None → excepts (b.context i).at ≡ None → (n : ℕ) →
      shown_by (excepted_by (upd b.owner t (Some i) n) (upd b.context i x') n) (b.seen n) ≡ shown b n
  acquired_still t free ex old n =
      elim (eqb_tells n t) [
        | inl e ↦
            ap (λ (d : Bool). shown_by d (b.seen n)) (subst (λ (m : ℕ).
            excepted_by (upd b.owner t (Some i) m) (upd b.context i x') m ≡ excepted_by (b.owner m) b.context m) (sym e.1)
            (rw (upd_same b.owner t (Some i), free, upd_same b.context i x', ex) refl))
        | inr e ↦
            ap (λ (o : Option ℕ). shown_by (excepted_by o (upd b.context i x') n) (b.seen n)) (upd_other b.owner t (Some i) n e.1)
            ∙ still (ex ∙ sym old) n
      ]

  pub released_still : (t : ℕ) → b.owner t ≡ Some i → excepts x'.at ≡ None → excepts (b.context i).at ≡ None → (n : ℕ) →
      shown_by (excepted_by (upd b.owner t None n) (upd b.context i x') n) (b.seen n) ≡ shown b n
  released_still t mine ex old n =
      elim (eqb_tells n t) [
        | inl e ↦
            ap (λ (d : Bool). shown_by d (b.seen n)) (subst (λ (m : ℕ).
            excepted_by (upd b.owner t None m) (upd b.context i x') m ≡ excepted_by (b.owner m) b.context m) (sym e.1)
            (rw (upd_same b.owner t None, mine, old) refl))
        | inr e ↦
            ap (λ (o : Option ℕ). shown_by (excepted_by o (upd b.context i x') n) (b.seen n)) (upd_other b.owner t None n e.1)
            ∙ still (ex ∙ sym old) n
      ]

  -- The exception ends as the word itself becomes a run.
  pub settled_still : (t : ℕ) (v : Seen) → b.owner t ≡ Some i → excepts x'.at ≡ None → excepts (b.context i).at ≡ Some t →
      shown_by false v ≡ shown_by true (b.seen t) → (n : ℕ) →
      shown_by (excepted_by (b.owner n) (upd b.context i x') n) (upd b.seen t v n) ≡ shown b n
  settled_still t v mine ex old h n =
      elim (eqb_tells n t) [
        | inl e ↦
            subst (λ (m : ℕ). shown_by (excepted_by (b.owner m) (upd b.context i x') m) (upd b.seen t v m) ≡ shown b m) (sym e.1)
            (rw (upd_same b.seen t v, mine, upd_same b.context i x', ex, old, eq-eqb t t refl) h)
        | inr e ↦
            ap (λ (u : Seen). shown_by (excepted_by (b.owner n) (upd b.context i x') n) u) (upd_other b.seen t v n e.1)
            ∙ ap (λ (d : Bool). shown_by d (b.seen n)) (excepted_same (b.owner n) b.context i x' n
            (rw (ex, old) (sym (ne_eqb t n (λ q. e.1 (sym q))))))
      ]

  -- a word that shows the same
  pub same_still : (t : ℕ) (v : Seen) → excepts x'.at ≡ excepts (b.context i).at →
      ((d : Bool) → shown_by d v ≡ shown_by d (b.seen t)) → (n : ℕ) →
      shown_by (excepted_by (b.owner n) (upd b.context i x') n) (upd b.seen t v n) ≡ shown b n
  same_still t v e h n =
      elim (eqb_tells n t) [
        | inl q ↦
            subst (λ (m : ℕ). shown_by (excepted_by (b.owner m) (upd b.context i x') m) (upd b.seen t v m) ≡ shown b m) (sym q.1)
            (ap (shown_by (excepted_by (b.owner t) (upd b.context i x') t)) (upd_same b.seen t v) ∙ h _ ∙ still e t)
        | inr q ↦
            ap (λ (u : Seen). shown_by (excepted_by (b.owner n) (upd b.context i x') n) u) (upd_other b.seen t v n q.1)
            ∙ still e n
      ]

-- a word that takes a message, once it has it
pub delivered_shown : (from : ThreadId) (v : Seen) → is_open v.word.state ≡ true →
    shown_by false (with_word v (on_in (state.Run (result4.Delivered from)) v.word)) ≡ shown_by true v
delivered_shown from v o = rw (o, open_joined v.word.state o) refl
  where
    open_joined : (s : State) → is_open s ≡ true → is_joined_to s ≡ false
    open_joined state.Dead h = refl
    open_joined (state.Run r) h = refl
    open_joined (state.Sending to joined) h = absurd (grind arith)
    open_joined (state.Receiving f) h = refl
    open_joined state.Picking h = refl
    open_joined state.Ended h = refl
