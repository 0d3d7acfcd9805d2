-- What a load told of a thread on its way into a ready list lasts over each granted step of a context without the ready lock.
use Rattle.std.proofs.Common.{◌≡◌, ℕ, ◌+◌, true, false, refl, sym, ap, ◌∙◌, subst, Option, Some, None, arith, inl, inr}
use Rattle.std.proofs.lemmas.Bool.Decides.{nat_tests, eqb_tells}
use Rattle.k_ids.specs.declared.threads.ThreadId.{ThreadId}
use Rattle.k_model.proofs.Maps.{upd_same, upd_other, upd_tells}
use Rattle.k_tokens.specs.World.{World, is_present, thread_of}
use Rattle.k_tokens.specs.Good.{Holder, IsListable, Nobody, Parts, Told, is_somewhere}
use Rattle.k_tokens.specs.Grants.{Grants}
use Rattle.k_tokens.specs.Steps.{ThreadStep, GoesOn, FindsOwned, FindsTaken, TurnsOn, AcquiresReady, Pushes}
use Rattle.k_tokens.specs.Steps.{AcquiresTable, ReleasesTable, Kills, Unlists, Removes, Places, Makes}
use Rattle.k_tokens.specs.Steps.{FallsAsleep, Ends, Dies, after_step, killed, made_by, newly_made, removed_by}
use Rattle.k_tokens.proofs.Basics.{same_is}

module _ (w : World) (holder : ThreadId → Holder) (g : Parts w holder) (c i : ℕ) (who : ThreadId) where
  kill_lists : (n : ℕ) → w.threads.present n ≡ true → w.threads.victim ≡ None → IsListable w.threads who →
      IsListable (killed w.threads n) who
  kill_lists n here none (inl h) = elim (eqb_tells who.number n) [
    | inl e ↦
        inr (
          ap Some (same_is (thread_of w.threads n) who (sym e.1)
              (ap w.threads.version (sym e.1) ∙ (grind (arith, nat_tests)))),
          refl,
        )
    | inr e ↦ inl (let z = upd_other w.threads.present n false who.number e.1 in grind (arith, nat_tests, z))
  ]
  kill_lists n here none (inr h) = absurd (let z : None ≡ Some who = sym none ∙ h.0 in cc)

  made_lists : (n p : ℕ) → w.threads.making ≡ Some n → IsListable w.threads who → IsListable (newly_made w.threads i p n) who
  made_lists n p e (inl h) = let z = (g.threads.making n e).1 in inl (grind (arith, nat_tests, upd_tells, h, z))
  made_lists n p e (inr h) = absurd (let z : None ≡ Some n = sym (g.threads.victim who h.0).4 ∙ e in cc)

  lists_stay : (step : ThreadStep) → Grants w i step → (w.threads.locks i).ready ≡ false → IsListable w.threads who →
      IsListable (after_step w c i step).threads who
  lists_stay (GoesOn held) h r l = l
  lists_stay (FindsOwned context wanted) h r l = l
  lists_stay FindsTaken h r l = l
  lists_stay (TurnsOn x) h r l = l
  lists_stay AcquiresReady h r l = l
  lists_stay (Pushes seen held above) h r l = l
  lists_stay AcquiresTable h r l = l
  lists_stay (ReleasesTable held) h r l = l
  lists_stay (Kills n) h r l = kill_lists n h.2 h.3.0 l
  lists_stay (Unlists held) h r l = absurd (let z : true ≡ false = sym h.3 ∙ r in cc)
  lists_stay Removes h r l = subst (λ (o : Option ThreadId). IsListable (removed_by w.threads o) who) (sym h.1) (by l)
    where
      by : IsListable w.threads who → IsListable (removed_by w.threads (Some h.0)) who
      by (inl z) = inl z
      by (inr z) = absurd (let y : true ≡ false = sym z.1 ∙ h.3 in cc)
  lists_stay (Places n) h r l = l
  lists_stay (Makes p) h r l =
      subst (λ (o : Option ℕ). IsListable (made_by w.threads i p o) who) (sym h.1) (made_lists h.0 p h.1 l)
  lists_stay FallsAsleep h r l = l
  lists_stay Ends h r l = l
  lists_stay Dies h r l = l

  made_absent : (n p : ℕ) → is_somewhere (holder who) ≡ true → is_present w.threads who ≡ false →
      is_present (newly_made w.threads i p n) who ≡ false
  made_absent n p some a = elim (eqb_tells who.number n) [
    | inl e ↦ elim (eqb_tells (w.threads.version n + 1) who.version) [
      | inl d ↦
          absurd (let z : holder who ≡ Nobody = g.threads.old who
          (let y : w.threads.version who.number ≡ w.threads.version n = ap w.threads.version e.1 in omega (arith, y, d.1)) in
          let x : true ≡ false = sym some ∙ ap is_somewhere z in cc)
      | inr d ↦
          (let z = upd_same w.threads.version n (w.threads.version n + 1) in let y = d.0 in let x = e.1 in
          grind (arith, nat_tests, upd_tells, z, y, x))
    ]
    | inr e ↦
        (let z = upd_other w.threads.version n (w.threads.version n + 1) who.number e.1 in
        let y = upd_other w.threads.present n true who.number e.1 in grind (arith, nat_tests, z, y, a))
  ]

  absent_stays : (step : ThreadStep) → Grants w i step → is_somewhere (holder who) ≡ true → is_present w.threads who ≡ false →
      is_present (after_step w c i step).threads who ≡ false
  absent_stays (GoesOn held) h s a = a
  absent_stays (FindsOwned context wanted) h s a = a
  absent_stays FindsTaken h s a = a
  absent_stays (TurnsOn x) h s a = a
  absent_stays AcquiresReady h s a = a
  absent_stays (Pushes seen held above) h s a = a
  absent_stays AcquiresTable h s a = a
  absent_stays (ReleasesTable held) h s a = a
  absent_stays (Kills n) h s a = grind (arith, nat_tests, upd_tells, a)
  absent_stays (Unlists held) h s a = a
  absent_stays Removes h s a = subst (λ (o : Option ThreadId). is_present (removed_by w.threads o) who ≡ false) (sym h.1) a
  absent_stays (Places n) h s a = a
  absent_stays (Makes p) h s a =
      subst (λ (o : Option ℕ). is_present (made_by w.threads i p o) who ≡ false) (sym h.1) (made_absent h.0 p s a)
  absent_stays FallsAsleep h s a = a
  absent_stays Ends h s a = a
  absent_stays Dies h s a = a

  pub told_stays : (step : ThreadStep) (seen : Option ℕ) → Grants w i step → (w.threads.locks i).ready ≡ false →
      is_somewhere (holder who) ≡ true
      → Told w.threads who seen → Told (after_step w c i step).threads who seen
  told_stays step seen h r s t = record {
    shown = λ p e. ((t.shown p e).0, lists_stay step h r (t.shown p e).1);
    absent = λ e. absent_stays step h s (t.absent e);
  }
