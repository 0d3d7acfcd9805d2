-- Places in a list, as positions by number.
use Rattle.std.proofs.Common.{◌≡◌, ℕ, ◌<◌, ◌+◌, List, [], ◌∷◌, ◌++◌, length, get_or, set, refl, sym, ap, ◌∙◌, subst, arith, length-set, get_or-set_same, get_or-set_other, Some, inl, inr}
use Rattle.std.proofs.Math.Seq.{get_or-append_seam}
use Rattle.std.proofs.lemmas.List.{get_or_append_left}
use Rattle.std.proofs.lemmas.Bool.{cases_eq}
use Rattle.k_ids.specs.declared.threads.ThreadId.{ThreadId}
use Rattle.k_ids.specs.declared.calls.Phase.{Phase}
use Rattle.k_ids.specs.declared.calls.Phase.TheVariants as phase
use Rattle.k_ids.specs.declared.calls.Act.{Act}
use Rattle.k_ids.specs.declared.calls.Act.TheVariants as act
use Rattle.k_ids.specs.declared.calls.Outcome.{Outcome}
use Rattle.k_ids.specs.declared.calls.Outcome.TheVariants as outcome
use Rattle.k_ids.specs.declared.histories.Entry.{Entry}
use Rattle.k_model.specs.Maps.{upd}
use Rattle.k_model.proofs.Maps.{upd_same, upd_other}
use Rattle.k_script.specs.Script.{Script}
use Rattle.k_script.specs.Plays.{Position, created_program, start_of}
use Rattle.k_script.specs.Place.{Place, IsPlace, position_in, no_place}
use Rattle.k_positions.specs.Positions.{positions_in, positions_to, caller_to, begun, ArePlaces, MakesInside}

pub position_set : (script : Script) (places : List Place) (number : ℕ) (p : Place) (q : Position) (t : ℕ) → number < length places → position_in script p ≡ q → positions_in script (set places number p) t ≡ upd (positions_in script places) number q t
position_set script places number p q t inside is = elim (cases_eq t number) [
  | inl e ↦
      let here : positions_in script (set places number p) number ≡ q = ap (position_in script) (get_or-set_same places number p no_place inside) ∙ is in
      subst (λ (j : ℕ). positions_in script (set places number p) j ≡ upd (positions_in script places) number q j) (sym e) (here ∙ sym (upd_same (positions_in script places) number q))
  | inr ne ↦ ap (position_in script) (get_or-set_other places number t p no_place ne) ∙ sym (upd_other (positions_in script places) number q t ne)
]

pub places_set : (script : Script) (places : List Place) (number : ℕ) (p : Place) → ArePlaces script places → number < script.table → IsPlace script p → ArePlaces script (set places number p)
places_set script places number p h inside placed =
    let there : number < length places = omega (arith, h.kept, inside) in
    record {
      kept = length-set places number p ∙ h.kept;
      placed = λ t l. elim (cases_eq t number) [
        | inl e ↦ subst (λ (j : ℕ). IsPlace script (get_or (set places number p) j no_place)) (sym e) (subst (IsPlace script) (sym (get_or-set_same places number p no_place there)) placed)
        | inr ne ↦ subst (IsPlace script) (sym (get_or-set_other places number t p no_place ne)) (h.placed t l)
      ];
    }

-- WHERE A CALL LEAVES THE PROGRAMS

-- one that creates nothing
pub no_create : (script : Script) (c : Phase) (o : Outcome) → ((program priority : ℕ) → c ≡ phase.Create program priority → ⊥) → (at : ℕ → Position) (t : ℕ) → begun script at (created_program (act.Call c)) o t ≡ at t
no_create script (phase.Send to message zero joined) o h at t = refl
no_create script (phase.Receive from zero) o h at t = refl
no_create script (phase.Create program priority) o h at t = absurd (h program priority refl)
no_create script (phase.Destroy who) o h at t = refl
no_create script (phase.Reply to message zero) o h at t = refl
no_create script phase.End o h at t = refl

-- a create that makes no thread
pub none_begins : (script : Script) (program : ℕ) (o : Outcome) → ((id : ThreadId) → o ≡ outcome.Made id → ⊥) → (at : ℕ → Position) (t : ℕ) → begun script at (Some program) o t ≡ at t
none_begins script program outcome.Passed h at t = refl
none_begins script program outcome.Waits h at t = refl
none_begins script program (outcome.Took from message) h at t = refl
none_begins script program (outcome.Made id) h at t = absurd (h id refl)
none_begins script program outcome.Killed h at t = refl
none_begins script program (outcome.Absent found) h at t = refl
none_begins script program (outcome.Busy found) h at t = refl
none_begins script program outcome.Nobody h at t = refl
none_begins script program outcome.Own h at t = refl
none_begins script program (outcome.Full alive worn) h at t = refl
none_begins script program outcome.Ended h at t = refl
none_begins script program outcome.Freed h at t = refl

pub call_moves : (script : Script) (places : List Place) (e : Entry) (c : Phase) (number : ℕ) (p : Place) → e.event.act ≡ act.Call c → number ≡ e.event.who.number → number < length places → ((at : ℕ → Position) (t : ℕ) → begun script at (created_program (act.Call c)) e.outcome t ≡ at t) → (t : ℕ) → positions_in script (set places number p) t ≡ positions_to script (positions_in script places) e (position_in script p) t
call_moves script places e c number p is who inside still t =
    let q = position_in script p in
    let at = positions_in script places in
    position_set script places number p q t inside refl ∙ ap (λ (j : ℕ). upd at j q t) who ∙ sym (still (upd at e.event.who.number q) t)
    ∙ ap (λ a. begun script (caller_to at e.event.who a q) (created_program a) e.outcome t) (sym is)

upd_along : (f g : ℕ → Position) (n : ℕ) (v : Position) (t : ℕ) → f t ≡ g t → upd f n v t ≡ upd g n v t
upd_along f g n v t e = elim (cases_eq t n) [
  | inl i ↦ subst (λ (j : ℕ). upd f n v j ≡ upd g n v j) (sym i) (upd_same f n v ∙ sym (upd_same g n v))
  | inr ne ↦ upd_other f n v t ne ∙ e ∙ sym (upd_other g n v t ne)
]

pub create_moves : (script : Script) (places : List Place) (e : Entry) (c : Phase) (program priority number new : ℕ) (id : ThreadId) (p q : Place) → e.event.act ≡ act.Call c → c ≡ phase.Create program priority → e.outcome ≡ outcome.Made id → number ≡ e.event.who.number → number < length places → new ≡ id.number → new < length places → position_in script q ≡ start_of script program id → (t : ℕ) → positions_in script (set (set places number p) new q) t ≡ positions_to script (positions_in script places) e (position_in script p) t
create_moves script places e c program priority number new id p q is create made who inside there below starts t =
    let at = positions_in script places in
    let mine = position_in script p in
    let start = start_of script program id in
    position_set script (set places number p) new q start t (omega (arith, length-set places number p)) starts
    ∙ ap (λ (j : ℕ). upd (positions_in script (set places number p)) j start t) there
    ∙ upd_along (positions_in script (set places number p)) (upd at e.event.who.number mine) id.number start t (position_set script places number p mine t inside refl ∙ ap (λ (j : ℕ). upd at j mine t) who)
    ∙ ap (λ (o : Outcome). begun script (upd at e.event.who.number mine) (Some program) o t) (sym made)
    ∙ ap (λ a. begun script (caller_to at e.event.who a mine) (created_program a) e.outcome t) (sym (is ∙ ap act.Call create))

-- the number of a thread that a create made
pub made_number : (size : ℕ) (e : Entry) (c : Phase) (program priority : ℕ) (id : ThreadId) → MakesInside size (created_program e.event.act) e.outcome → e.event.act ≡ act.Call c → c ≡ phase.Create program priority → e.outcome ≡ outcome.Made id → id.number < size
made_number size e c program priority id h is create made =
    let named : MakesInside size (Some program) e.outcome = subst (λ (a : Act). MakesInside size (created_program a) e.outcome) (is ∙ ap act.Call create) h in
    subst (MakesInside size (Some program)) made named

-- What holds of each place holds with one more.
pub places_push : (Q : ℕ → Place → Type 0) (places : List Place) (p : Place) (n : ℕ) → length places ≡ n → ((t : ℕ) → t < n → Q t (get_or places t no_place)) → Q n p → (t : ℕ) → t < n + 1 → Q t (get_or (places ++ p ∷ []) t no_place)
places_push Q places p n len all here t l = elim (cases_eq t n) [
  | inl e ↦
      let at : t ≡ length places = e ∙ sym len in
      let there : get_or (places ++ p ∷ []) t no_place ≡ p = ap (λ (j : ℕ). get_or (places ++ p ∷ []) j no_place) at ∙ get_or-append_seam places p [] no_place in
      subst (Q t) (sym there) (subst (λ (j : ℕ). Q j p) (sym e) here)
  | inr ne ↦
      let below : t < length places = omega (arith, ne, len, l) in
      subst (Q t) (sym (get_or_append_left places (p ∷ []) no_place t below)) (all t (omega (arith, ne, l)))
]
