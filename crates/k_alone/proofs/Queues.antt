-- The first entry that a receiver admits: in the queue, and in the list that the queue shows.
use Rattle.std.proofs.Common.{◌≡◌, false, eqb, List, [], ◌∷◌, ◌++◌, map, refl, sym, ap, ◌∙◌, subst, Option, Some, None, inl, inr}
use Rattle.std.specs.List.{AllByRecursion, IsDistinct}
use Rattle.std.proofs.lemmas.Bool.{eq-eqb, cases_Bool}
use Rattle.std.proofs.lemmas.List.{map-append}
use Rattle.std.proofs.lemmas.Map.Keys.{IsDistinct-head, IsDistinct-tail}
use Rattle.k_ids.specs.declared.threads.ThreadId.{ThreadId}
use Rattle.k_senders.specs.declared.entries.SenderEntry.{SenderEntry}
use Rattle.k_senders.specs.Entries.{number_of}
use Rattle.k_senders.specs.Queue.{without}
use Rattle.k_model.specs.State.{Waiting, admits}
use Rattle.k_model.specs.Sound.{numbers}
use Rattle.k_lists.proofs.All.{all_inside, all_of_map}
use Rattle.std.proofs.lemmas.Option.{none-some, same_Some}
use Rattle.k_ipc.specs.Candidates.{first_admitted}
use Rattle.k_shown.specs.Memory.{waiting_of}
use Rattle.k_shown.specs.Rows.{IsFirst, IsUnwanted}

pub admits_none : (from : Option ThreadId) (es : List SenderEntry) → first_admitted from es ≡ None → IsUnwanted from (map waiting_of es)
admits_none from [] h = tt
admits_none from (e ∷ es) h = elim (cases_Bool (admits from (waiting_of e).0)) [
  | inl t ↦ absurd (none-some e (sym h ∙ rw t refl))
  | inr t ↦ (t, admits_none from es (sym (rw t refl) ∙ h))
]

-- where the entry stands, and what is left without it
pub record FoundAt (from : Option ThreadId) (es : List SenderEntry) (e : SenderEntry) : Type 0 where
  pub before : List SenderEntry
  pub after : List SenderEntry
  pub first : IsFirst from (map waiting_of es) (waiting_of e) (map waiting_of before) (map waiting_of after)
  pub rest : without (number_of e) es ≡ before ++ after

-- .. in the list that the queue shows
pub rest_shown : (from : Option ThreadId) (es : List SenderEntry) (e : SenderEntry) (f : FoundAt from es e) → map waiting_of (without (number_of e) es) ≡ map waiting_of f.before ++ map waiting_of f.after
rest_shown from es e f = ap (map waiting_of) f.rest ∙ map-append waiting_of f.before f.after

pub admits_some : (from : Option ThreadId) (es : List SenderEntry) (e : SenderEntry) → IsDistinct eqb (numbers (map waiting_of es)) → first_admitted from es ≡ Some e → FoundAt from es e
admits_some from [] e d h = absurd cc
admits_some from (f ∷ es) e d h =
    elim (cases_Bool (admits from (waiting_of f).0)) [
      | inl t ↦ let same : f ≡ e = same_Some f e (sym (rw t refl) ∙ h) in record {
        before = [];
        after = es;
        first = record { list = ap (λ (x : SenderEntry). waiting_of x ∷ map waiting_of es) same; unwanted = tt; wanted = ap (λ (x : SenderEntry). admits from (waiting_of x).0) (sym same) ∙ t };
        rest = rw (eq-eqb (number_of f) (number_of e) (ap number_of same)) refl;
      }
      | inr t ↦ let r = admits_some from es e (IsDistinct-tail eqb (number_of f) (numbers (map waiting_of es)) d) (sym (rw t refl) ∙ h) in
          let head = all_of_map (λ n. eqb (number_of f) n ≡ false) (λ (w : Waiting). w.0.number) (map waiting_of es) (IsDistinct-head eqb (number_of f) (numbers (map waiting_of es)) d) in
          let there = all_inside (λ (w : Waiting). eqb (number_of f) w.0.number ≡ false) (map waiting_of r.before) (waiting_of e) (map waiting_of r.after) (subst (AllByRecursion (λ (w : Waiting). eqb (number_of f) w.0.number ≡ false)) r.first.list head) in
          record {
            before = f ∷ r.before;
            after = r.after;
            first = record { list = ap (λ (ws : List Waiting). waiting_of f ∷ ws) r.first.list; unwanted = (t, r.first.unwanted); wanted = r.first.wanted };
            rest = rw there (ap (λ (xs : List SenderEntry). f ∷ xs) r.rest);
          }
    ]
