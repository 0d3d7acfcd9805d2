-- From one location to the next, as locations compute.
use Rattle.std.proofs.Common.{◌≡◌, true, false, refl, ap, ◌∙◌, Option, Some, None}
use Rattle.k_ids.specs.declared.threads.ThreadId.{ThreadId}
use Rattle.k_board.specs.Boards.{At}
use Rattle.k_tokens.specs.World.{Dead, holds_any, no_locks}
use Rattle.k_grants.specs.Views.{Look, look_at}
use Rattle.k_grants.proofs.Moves.{IsAbout, IsSame}
use Rattle.k_grants.proofs.Granting.{IsAcquiring, IsDying, IsPushing, IsQuiet, IsTurning}

nobody_is : {who : ThreadId} {o : Option ThreadId} → o ≡ None → o ≡ Some who → ⊥
nobody_is e d = cc

about_by : (p q : At) (l : Look) → look_at q ≡ l → l.is_coming ≡ (look_at p).is_coming →
    IsAbout (look_at p) (look_at q) l.condition l.locks l.push
about_by p q l e c = record {
  condition = ap (λ (x : Look). x.condition) e;
  coming = ap (λ (x : Look). x.is_coming) e ∙ c;
  locks = ap (λ (x : Look). x.locks) e;
  push = ap (λ (x : Look). x.push) e;
}

same_by : (p q : At) (l : Look) → look_at q ≡ l → l.victim ≡ (look_at p).victim → l.listed ≡ (look_at p).listed →
    l.making ≡ (look_at p).making → IsSame (look_at p) (look_at q)
same_by p q l e v d m = record {
  victim = ap (λ (x : Look). x.victim) e ∙ v;
  listed = ap (λ (x : Look). x.listed) e ∙ d;
  making = ap (λ (x : Look). x.making) e ∙ m;
}

module _ {p q : At} where
  pub quiet : look_at q ≡ record (look_at p) { locks = (look_at q).locks } → (look_at q).locks.table ≡ (look_at p).locks.table
      → (look_at q).locks.ready ≡ (look_at p).locks.ready
      → ((who : ThreadId) → (look_at p).push ≡ Some who → holds_any (look_at q).locks ≡ true) → IsQuiet p q
  quiet e t r k = record {
    about = about_by p q (record (look_at p) { locks = (look_at q).locks }) e refl;
    same = same_by p q (record (look_at p) { locks = (look_at q).locks }) e refl refl refl;
    table = t;
    ready = r;
    keeps = k;
  }

  pub silent : look_at q ≡ record (look_at p) { locks = (look_at q).locks } → (look_at q).locks.table ≡ (look_at p).locks.table
      → (look_at q).locks.ready ≡ (look_at p).locks.ready → (look_at p).push ≡ None → IsQuiet p q
  silent e t r n = quiet e t r (λ who d. absurd (nobody_is n d))

  pub dying : look_at q ≡ record (look_at p) { condition = Dead; locks = no_locks } → (look_at p).locks.table ≡ false
      → (look_at p).locks.ready ≡ false → (look_at p).push ≡ None → IsDying p q
  dying e t r n = record {
    about = about_by p q (record (look_at p) { condition = Dead; locks = no_locks }) e refl;
    same = same_by p q (record (look_at p) { condition = Dead; locks = no_locks }) e refl refl refl;
    table = t;
    ready = r;
    push = n;
  }

  pub turning : {who : ThreadId} → look_at q ≡ record (look_at p) { push = Some who } → (look_at p).push ≡ None →
      holds_any (look_at p).locks ≡ true
      → IsTurning p q who
  turning {who} e n k = record {
    about = about_by p q (record (look_at p) { push = Some who }) e refl;
    same = same_by p q (record (look_at p) { push = Some who }) e refl refl refl;
    push = n;
    locks = k;
  }

  pub acquiring : look_at q ≡ record (look_at p) { locks = record (look_at p).locks { ready = true } } →
      holds_any (look_at p).locks ≡ true → IsAcquiring p q
  acquiring e k = record {
    about = about_by p q (record (look_at p) { locks = record (look_at p).locks { ready = true } }) e refl;
    same = same_by p q (record (look_at p) { locks = record (look_at p).locks { ready = true } }) e refl refl refl;
    locks = k;
  }

  pub pushing : {who : ThreadId} → look_at q ≡ record (look_at p) { locks = (look_at q).locks; push = None } →
      (look_at p).push ≡ Some who
      → (look_at p).locks.ready ≡ true → (look_at q).locks.table ≡ (look_at p).locks.table → (look_at q).locks.ready ≡ false →
      IsPushing p q who
  pushing {who} e u r t f = record {
    about = about_by p q (record (look_at p) { locks = (look_at q).locks; push = None }) e refl;
    same = same_by p q (record (look_at p) { locks = (look_at q).locks; push = None }) e refl refl refl;
    push = u;
    ready = r;
    table = t;
    free = f;
  }
