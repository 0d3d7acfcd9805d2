-- At first no call was made, and each thread of the script stands at the start of its program.
use Rattle.std.proofs.Common.{◌≡◌, ℕ, ◌+◌, ◌<◌, ◌≤◌, Bool, true, false, not, cond, List, [], length, get_or, refl, sym, ap, ◌∙◌, subst, arith, Some, None, inl, inr}
use Rattle.std.specs.Prelude.{nat_lt}
use Rattle.std.proofs.lemmas.Bool.{cases_Bool, cases_lt, and_parts, eqb-true, false≢true}
use Rattle.std.proofs.lemmas.Bool.Decides.{nat_tests}
use Rattle.k_ids.specs.declared.threads.ThreadId.{ThreadId}
use Rattle.k_model.specs.State.{Place, nowhere, id_of, is_dead}
use Rattle.k_model.specs.History.{opening_place, new_place, dead_place}
use Rattle.k_model.proofs.Opening.{opened-sound}
use Rattle.k_model.proofs.Answered.{opened-answered}
use Rattle.k_model.proofs.Ranged.{opened-ranged}
use Rattle.k_script.specs.Script.{Script}
use Rattle.k_script.specs.Limits.{IsScript}
use Rattle.k_script.specs.Plays.{Position, first_id, is_first, program_of, start_of, opened_for}
use Rattle.k_positions.specs.Positions.{program_at}
use Rattle.k_positions.proofs.Playing.{IsAt, HasPlayed, IsPlaying, PlayedIn}

module _ (versions : List ℕ) (threads t : ℕ) where
  pub opening_runs : t < length versions → t < threads → opening_place versions threads t ≡ new_place
  opening_runs l m =
      let inside : nat_lt t (length versions) ≡ true = grind (arith, nat_tests) in
      let thread : nat_lt t threads ≡ true = grind (arith, nat_tests) in
      rw (inside, thread) refl

  pub opening_dead : threads ≤ t → is_dead (opening_place versions threads t).status ≡ true
  opening_dead m =
      let thread : nat_lt t threads ≡ false = grind (arith, nat_tests) in
      go (nat_lt t (length versions)) thread
    where
      go : (inside : Bool) → nat_lt t threads ≡ false → is_dead (cond (not inside) nowhere (cond (nat_lt t threads) new_place (dead_place (get_or versions t 0)))).status ≡ true
      go false e = refl
      go true e = rw e refl

-- the first thread of a number
first_number : (script : Script) (id : ThreadId) → is_first script id ≡ true → (first_id id.number ≡ id) × (id.number < length script.threads)
first_number script id f =
    let p = and_parts _ _ f in
    let version : id.version ≡ 1 = eqb-true id.version 1 p.0 in
    let below : id.number < length script.threads = grind (arith, nat_tests, p.1) in
    (ap (λ (v : ℕ). record { number = id.number; version = v }) (sym version), below)

is_first_number : (script : Script) (t : ℕ) → t < length script.threads → is_first script (first_id t) ≡ true
is_first_number script t l =
    let test : nat_lt t (length script.threads) ≡ true = grind (arith, nat_tests) in
    rw test refl

module _ (script : Script) (at : ℕ → Position) (s : IsScript script) (starts : (t : ℕ) → t < length script.threads → at t ≡ start_of script (program_at script t) (first_id t)) where
  pub opens_new : (t : ℕ) → t < length script.threads → (opened_for script).place t ≡ new_place
  opens_new t l = opening_runs script.aged (length script.threads) t (omega (arith, s.lines.1, s.numbered, l)) l

  opens_at : (t : ℕ) → t < length script.threads → IsAt script [] (opened_for script) (first_id t) (at t)
  opens_at t l =
      let none : ((opened_for script).place t).serial ≡ 0 = ap (λ (p : Place). p.serial) (opens_new t l) in
      let start : IsAt script [] (opened_for script) (first_id t) (start_of script (program_at script t) (first_id t)) = record {
        program = program_at script t;
        is = rw (is_first_number script t l) refl;
        runs = (refl, ap (λ (n : ℕ). n + 1) none);
        going = λ _. refl;
      } in
      subst (IsAt script [] (opened_for script) (first_id t)) (sym (starts t l)) start

  pub opens_playing : IsPlaying script [] (opened_for script) at
  opens_playing =
      let k = opened_for script in
      record {
        replay = refl;
        size = s.numbered;
        sound = opened-sound script.aged (length script.threads);
        answered = opened-answered script.aged (length script.threads);
        ranged = opened-ranged script.aged (length script.threads) s.aged;
        played = λ id. elim (cases_Bool (is_first script id)) [
          | inl f ↦
              let first = first_number script id f in
              let is : program_of script [] id ≡ Some (program_at script id.number) = rw f refl in
              let version : (k.place id.number).version ≡ 1 = ap (λ (p : Place). p.version) (opens_new id.number first.1) in
              let none : (k.place id.number).serial ≡ 0 = ap (λ (p : Place). p.serial) (opens_new id.number first.1) in
              let mine : id.version ≡ 1 = eqb-true id.version 1 (and_parts _ _ f).0 in
              let has : HasPlayed script [] k id (program_at script id.number) = record { position = start_of script (program_at script id.number) id; next = 1; runs = (refl, refl); early = inr (mine ∙ sym version, omega (arith, none)) } in
              subst (PlayedIn script [] k id) (sym is) has
          | inr f ↦
              let is : program_of script [] id ≡ None = rw f refl in
              subst (PlayedIn script [] k id) (sym is) refl
        ];
        unborn = λ id less. elim (cases_Bool (is_first script id)) [
          | inl f ↦
              let first = first_number script id f in
              let version : (k.place id.number).version ≡ 1 = ap (λ (p : Place). p.version) (opens_new id.number first.1) in
              let mine : id.version ≡ 1 = eqb-true id.version 1 (and_parts _ _ f).0 in
              absurd (omega (arith, version, mine, less))
          | inr f ↦ rw f refl
        ];
        present = λ t alive. elim (cases_lt t (length script.threads)) [
          | inl l ↦
              let id : first_id t ≡ id_of k t = ap (λ (p : Place). record { number = t; version = p.version }) (sym (opens_new t l)) in
              subst (λ (x : ThreadId). IsAt script [] k x (at t)) id (opens_at t l)
          | inr l ↦ absurd (false≢true (sym alive ∙ opening_dead script.aged (length script.threads) t l))
        ];
      }
