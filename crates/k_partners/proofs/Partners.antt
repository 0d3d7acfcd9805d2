-- Whoever waits to receive from one thread waits for another that is there, or the wait is about to end: at the start, and after
-- any turn.
use Rattle.std.proofs.Common.{◌≡◌, ◌≢◌, ◌⊎◌, ℕ, ◌<◌, true, false, refl, sym, ap, ◌∙◌, subst, arith, Option, Some, None, inl, inr}
use Rattle.std.proofs.lemmas.Bool.{cases_Bool}
use Rattle.std.proofs.lemmas.Bool.Decides.{eqb_tells, nat_tests}
use Rattle.k_ids.specs.declared.threads.ThreadId.{ThreadId}
use Rattle.k_ids.specs.declared.state_word.State.{State}
use Rattle.k_ids.specs.declared.state_word.State.TheVariants as state
use Rattle.k_ids.specs.declared.state_word.StateWord.{StateWord}
use Rattle.k_model.specs.State.{same_id}
use Rattle.k_model.proofs.Maps.{upd_same}
use Rattle.k_locks.specs.declared.locks.Lock.TheVariants as lock
use Rattle.k_locks.specs.Asks.{Response}
use Rattle.k_locks.specs.Locks.{Holds}
use Rattle.k_locks.specs.Shown.{is_dead, is_present_in}
use Rattle.k_threads.specs.declared.create.CreateCall.{CreateCall}
use Rattle.k_threads.specs.declared.create.CreateLocked.TheVariants as create_locked
use Rattle.k_threads.specs.CreateTable.{CreateAt}
use Rattle.k_threads.specs.CreateTable as create
use Rattle.k_threads.specs.declared.destroy.DestroyCall.{DestroyCall}
use Rattle.k_threads.specs.DestroyTable.{DestroyAt}
use Rattle.k_threads.specs.DestroyTable as destroy
use Rattle.k_threads.specs.declared.destroy.DestroyLocked.TheVariants as destroy_locked
use Rattle.k_threads.specs.declared.destroy.DestroyRelease.TheVariants as destroy_release
use Rattle.k_threads.specs.Words.{is_receiving_from}
use Rattle.k_board.specs.Words.{Programs}
use Rattle.k_board.specs.Boards.{At, InCreate, InDestroy, Context, Board, hand_of, id_at}
use Rattle.k_board.specs.Boots.{Booted, has_carrier, has_none, has_thread}
use Rattle.k_board.specs.Facts.{AllSay}
use Rattle.k_board.specs.Places.{PlacesHold, facts_of}
use Rattle.k_board.specs.Steps.{Answers, destroy_board, destroy_context, destroy_contexts, destroy_number}
use Rattle.k_board.specs.Turns.{Supports, Turn, sends, receives, creates, destroys, goes_alone}
use Rattle.k_board.specs.Turns.{begins, turns_to_work, wakes, switches, begins_switch, ends_switch}
use Rattle.k_board.proofs.Turning.{turn_changes, turn_leaves}
use Rattle.k_good.specs.Good.{IsGood, QueuesTell}
use Rattle.k_good.specs.Locks.{locks_at}
use Rattle.k_good.specs.Ranges.{FitsAt, IsWithin}
use Rattle.k_good.proofs.Goods.{good_keeps, supports}
use Rattle.k_partners.specs.Partners.{Frees, IsThere, Looks, PartnersHold, ReceivesFrom, is_ahead}
use Rattle.k_partners.proofs.Ahead.{ahead_facts, ahead_goes, ahead_owns, ahead_stands, below_size}
use Rattle.k_partners.proofs.Came.{run_alive, Came, decided, waited, went_to}
use Rattle.k_partners.proofs.Turned.{true_not, context_stays, turn_came, turn_looks, version_stays}

receives_alive : (w : StateWord) (from : ThreadId) → w.state ≡ state.Receiving (Some from) → is_dead w ≡ false
receives_alive w from q = grind arith

receives_only : (s : State) (who from : ThreadId) → who ≡ from → s ≡ state.Receiving (Some from) → is_receiving_from who s ≡ true
receives_only s who from e q =
    subst (λ (k : State). is_receiving_from who k ≡ true) (sym q)
    (subst (λ (id : ThreadId). same_id id who ≡ true) e (same_self who))
  where
    same_self : (id : ThreadId) → same_id id id ≡ true
    same_self id = grind (arith, nat_tests)

apart_number : (from : ThreadId) (b : Board) (t : ℕ) → from.number ≢ t → same_id from (id_at b t) ≡ false
apart_number from b t ne = grind (arith, nat_tests)

same_version : (b b' : Board) (t : ℕ) (from : ThreadId) → (b'.seen t).word.version ≡ (b.seen t).word.version →
    same_id from (id_at b t) ≡ false → same_id from (id_at b' t) ≡ false
same_version b b' t from e h = subst (λ (v : ℕ). same_id from (record { number = t; version = v }) ≡ false) (sym e) h

dead_apart : (b : Board) (t n : ℕ) → is_dead (b.seen t).word ≡ false → is_dead (b.seen n).word ≡ true → t ≢ n
dead_apart b t n alive dead e = true_not dead (ap (λ (m : ℕ). is_dead (b.seen m).word) (sym e) ∙ alive)

module _ (g : Programs) (b : Board) (i : ℕ) (good : IsGood g b) (within : IsWithin b) (tells : QueuesTell b i) where
  facts_at : (k : ℕ) (p : At) → (b.context k).at ≡ p → AllSay g b k (b.context k) (facts_of p)
  facts_at k p at = subst (λ (q : At). AllSay g b k (b.context k) (facts_of q)) at (good.places k)

  target_at : (k : ℕ) (p : At) → (b.context k).at ≡ p → FitsAt b.size p
  target_at k p at = subst (λ (q : At). FitsAt b.size q) at (within.targets k)

  s : Supports b i
  s = supports g b i good tells

  -- where a destroy stands that is still to visit a number, its context has the table lock
  owns_table : (b' : Board) → IsGood g b' → (k : ℕ) (c : DestroyCall) (p : DestroyAt) (t : ℕ) →
      (b'.context k).at ≡ InDestroy c p → is_ahead p t ≡ true → b'.table ≡ Some k
  owns_table b' good' k c p t at a =
      good'.locks.named lock.Table k (subst (λ (q : At). Holds lock.Table (locks_at q)) (sym at) (ahead_owns c p t a))

  module _ (from : ThreadId) (t : ℕ) (q : ReceivesFrom b t from) where
    -- the destroy's own step
    own_frees : (c call : DestroyCall) (p location : DestroyAt) (r : Response) → (b.context i).at ≡ InDestroy c p →
        Answers b (destroy.ask_of c (b.context i).own p) r → IsGood g (destroy_board g b i (b.context i) c p r) →
        b.table ≡ Some i → c ≡ call → p ≡ location → call.who ≡ from → is_ahead location t ≡ true →
        Frees (destroy_board g b i (b.context i) c p r) from t
    own_frees c call p location r at an good' o ec ep who a =
        let here = subst (λ (l : DestroyAt). is_ahead l t ≡ true) (sym ep) a in
        let f = facts_at i (InDestroy c p) at in
        let dead = ahead_facts g b i (b.context i) c p t here f in
        let alive = receives_alive (b.seen t).word from q in
        let who' = ap (λ (k : DestroyCall). k.who) ec ∙ who in
        let apart = dead_apart b t c.who.number alive dead.0.1 in
        let below = subst (λ (n : ℕ). t < n) (within.count ∙ sym (target_at i (InDestroy c p) at).1)
        (below_size b i c p t good.numbers o at apart alive) in
        let h = hand_of b (b.queue (destroy_number c p)) in
        let ahead = ahead_goes g b i (b.context i) c t apart below h p r an f
        (receives_only (b.seen t).word.state c.who from who' q) here in
        let stands = ap (λ (y : Context). y.at) (upd_same (destroy_contexts c p r b.context) i
        (destroy_context (b.context i) c p r h)) ∙ ahead_stands c (destroy.leads c h p r) t ahead in
        record {
          by = i;
          call = c;
          location = destroy.leads c h p r;
          owns = owns_table (destroy_board g b i (b.context i) c p r) good' i c (destroy.leads c h p r) t stands ahead;
          stands = stands;
          victim = who';
          ahead = ahead;
        }

    call_is : {c d : DestroyCall} {p l : DestroyAt} → InDestroy c p ≡ InDestroy d l → c ≡ d
    call_is e = cc

    place_is : {c d : DestroyCall} {p l : DestroyAt} → InDestroy c p ≡ InDestroy d l → p ≡ l
    place_is e = cc

    owner_frees : (b' : Board) → Turn g b i b' → IsGood g b' → (call : DestroyCall) (location : DestroyAt) → b.table ≡ Some i →
        (b.context i).at ≡ InDestroy call location → call.who ≡ from → is_ahead location t ≡ true → Frees b' from t
    owner_frees _ (destroys c p r at an) good' call location o st who a =
        own_frees c call p location r at an good' o (call_is (sym at ∙ st)) (place_is (sym at ∙ st)) who a
    owner_frees _ (sends c p r at an) good' call location o st who a = absurd cc
    owner_frees _ (receives c p r at an) good' call location o st who a = absurd cc
    owner_frees _ (creates c p r at an) good' call location o st who a = absurd cc
    owner_frees _ (goes_alone p r at can an) good' call location o st who a = absurd cc
    owner_frees _ (begins l f at e) good' call location o st who a = absurd cc
    owner_frees _ (turns_to_work l count at e) good' call location o st who a = absurd cc
    owner_frees _ (wakes at) good' call location o st who a = absurd cc
    owner_frees _ (switches c p r at going an) good' call location o st who a = absurd cc
    owner_frees _ (begins_switch c at) good' call location o st who a = absurd cc
    owner_frees _ (ends_switch c k at) good' call location o st who a = absurd cc

    turn_frees : (b' : Board) → Turn g b i b' → IsGood g b' → Frees b from t → Frees b' from t
    turn_frees b' turn good' f = elim (eqb_tells f.by i) [
      | inl e ↦
          owner_frees b' turn good' f.call f.location (f.owns ∙ ap (λ (k : ℕ). Some k) e.1)
          (ap (λ (k : ℕ). (b.context k).at) (sym e.1) ∙ f.stands) f.victim f.ahead
      | inr ne ↦ other ne.1
    ]
      where
        alive : is_dead (b.seen f.by).word ≡ false
        alive =
            let k = ahead_facts g b f.by (b.context f.by) f.call f.location t f.ahead
            (facts_at f.by (InDestroy f.call f.location) f.stands) in
            run_alive (b.seen f.by).word (b.context f.by).own k.1.1.1.1.1.0.0 k.1.1.1.1.1.0.1

        other : f.by ≢ i → Frees b' from t
        other ne = record {
          by = f.by;
          call = f.call;
          location = f.location;
          owns = (turn_leaves g b good.places i b' s turn f.by ne).table f.owns;
          stands = ap (λ (y : Context). y.at) (context_stays g b i good.places f.by alive b' turn ne) ∙ f.stands;
          victim = f.victim;
          ahead = f.ahead;
        }

  pub partners_keep : PartnersHold b → (b' : Board) → Turn g b i b' → PartnersHold b'
  partners_keep h b' turn = record {
    other = other;
    there = λ t from q. there t from q (cases_Bool (is_present_in (b'.seen from.number).word from));
  }
    where
      good' : IsGood g b'
      good' = good_keeps g b b' i good tells turn

      version : (t : ℕ) (from : ThreadId) → ReceivesFrom b' t from → (b'.seen t).word.version ≡ (b.seen t).word.version
      version t from q = version_stays b i t (b'.seen t) from (turn_changes g b good.places i b' s turn t) q

      other : (t : ℕ) (from : ThreadId) → ReceivesFrom b' t from → same_id from (id_at b' t) ≡ false
      other t from q = by ((turn_came g b i good.places good.outward b' turn t).0 from q)
        where
          by : Came b i (b'.context i).at t (b.seen t).word from → same_id from (id_at b' t) ≡ false
          by (waited e) = same_version b b' t from (version t from q) (h.other t from e)
          by (went_to th ne) = apart_number from b' t ne
          by (decided e unlike l) =
              same_version b b' t from (version t from q) (subst (λ (n : ℕ). same_id from (id_at b n) ≡ false) (sym e) unlike)

      -- it was there before, and was killed
      killed : (t : ℕ) (from : ThreadId) → is_present_in (b'.seen from.number).word from ≡ false → IsThere b from →
          Frees b' from t
      killed t from gone th = elim ((turn_came g b i good.places good.outward b' turn from.number).1 from refl th) [
        | inl y ↦ absurd (true_not y gone)
        | inr k ↦
            record {
              by = i;
              call = k.call;
              location = k.location;
              owns = owns_table b' good' i k.call k.location t k.stands (k.ahead t);
              stands = k.stands;
              victim = k.victim;
              ahead = k.ahead t;
            }
      ]

      -- it wasn't there before
      absent : (t : ℕ) (from : ThreadId) → ReceivesFrom b' t from → (IsThere b from → ⊥) →
          Came b i (b'.context i).at t (b.seen t).word from → Looks from (b'.context t).at ⊎ Frees b' from t
      absent t from q gone (went_to th ne) = absurd (gone th)
      absent t from q gone (decided e n l) = inl (subst (λ (k : ℕ). Looks from (b'.context k).at) (sym e) l)
      absent t from q gone (waited e) = elim (h.there t from e) [
        | inl th ↦ absurd (gone th)
        | inr (inr f) ↦ inr (turn_frees from t e b' turn good' f)
        | inr (inl l) ↦ inl (elim (eqb_tells t i) [
          | inl k ↦
              subst (λ (n : ℕ). Looks from (b'.context n).at) (sym k.1)
              (turn_looks g b i good.places from gone b' turn (subst (λ (n : ℕ). Looks from (b.context n).at) k.1 l)
              (subst (λ (n : ℕ). ReceivesFrom b' n from) k.1 q))
          | inr k ↦
              subst (λ (y : Context). Looks from y.at) (sym (context_stays g b i good.places t
              (receives_alive (b.seen t).word from e) b' turn k.1)) l
        ])
      ]

      there : (t : ℕ) (from : ThreadId) → ReceivesFrom b' t from →
          (is_present_in (b'.seen from.number).word from ≡ true) ⊎ (is_present_in (b'.seen from.number).word from ≡ false) →
          IsThere b' from ⊎ (Looks from (b'.context t).at ⊎ Frees b' from t)
      there t from q (inl y) = inl y
      there t from q (inr gone) = elim (cases_Bool (is_present_in (b.seen from.number).word from)) [
        | inl th ↦ inr (inr (killed t from gone th))
        | inr n ↦ inr (absent t from q (λ th. true_not th n) ((turn_came g b i good.places good.outward b' turn t).0 from q))
      ]

run_receives : (from : ThreadId) {w : StateWord} (v : StateWord) → w ≡ v → (v.state ≡ state.Receiving (Some from) → ⊥) →
    w.state ≡ state.Receiving (Some from) → ⊥
run_receives from v e n q = n (ap (λ (u : StateWord). u.state) (sym e) ∙ q)

dead_deaf : (w : StateWord) (from : ThreadId) → is_dead w ≡ true → w.state ≡ state.Receiving (Some from) → ⊥
dead_deaf w from d q = grind arith

none_at : (g : Programs) (b : Board) (n : ℕ) (from : ThreadId) → Booted g b n → ReceivesFrom b n from → ⊥
none_at g b n from (has_thread program priority t) q = run_receives from _ t.word (λ z. cc) q
none_at g b n from (has_none d e) q = dead_deaf (b.seen n).word from d q
none_at g b n from (has_carrier d e) q = dead_deaf (b.seen n).word from d q

pub partners_start : (g : Programs) (b : Board) → ((n : ℕ) → Booted g b n) → PartnersHold b
partners_start g b h = record {
  other = λ t from q. absurd (none_at g b t from (h t) q);
  there = λ t from q. absurd (none_at g b t from (h t) q);
}

pub partners_meet : (b : Board) (t : ℕ) (from : ThreadId) → PartnersHold b → b.table ≡ None → (Looks from (b.context t).at → ⊥) →
    ReceivesFrom b t from → IsThere b from
partners_meet b t from h free unlooked q = elim (h.there t from q) [
  | inl th ↦ th
  | inr (inl l) ↦ absurd (unlooked l)
  | inr (inr f) ↦ absurd (unowned f.owns)
]
  where
    unowned : {k : ℕ} → b.table ≡ Some k → ⊥
    unowned o = cc

-- a destroy's context owns the table lock, and its place is known
released_ahead : (c call : DestroyCall) (p location : DestroyAt) (t : ℕ) → InDestroy call location ≡ InDestroy c p →
    is_ahead p t ≡ false → is_ahead location t ≡ true → ⊥
released_ahead c call p location t e n a = true_not (ap (λ (l : DestroyAt). is_ahead l t) (sym (place e)) ∙ a) n
  where
    place : InDestroy call location ≡ InDestroy c p → location ≡ p
    place q = cc

one_owner : {k i : ℕ} {o : Option ℕ} → o ≡ Some k → o ≡ Some i → k ≡ i
one_owner e q = cc

dead_not_there : (b : Board) (id : ThreadId) → is_dead (b.seen id.number).word ≡ true → IsThere b id → ⊥
dead_not_there b id d th = grind (arith, nat_tests)

pub partners_left : (g : Programs) (b : Board) (i t : ℕ) (c : DestroyCall) → IsGood g b → PartnersHold b →
    (b.context i).at ≡ InDestroy c (destroy.Locked (destroy_locked.Release destroy_release.Killed)) → ReceivesFrom b t c.who →
    Looks c.who (b.context t).at
partners_left g b i t c good h at q =
    let f = subst (λ (p : At). AllSay g b i (b.context i) (facts_of p)) at (good.places i) in
    elim (h.there t c.who q) [
      | inl th ↦ absurd (dead_not_there b c.who f.0.1 th)
      | inr (inl l) ↦ l
      | inr (inr k) ↦
          absurd (released_ahead c k.call (destroy.Locked (destroy_locked.Release destroy_release.Killed)) k.location t
          (sym k.stands ∙ (ap (λ (n : ℕ). (b.context n).at) (one_owner k.owns f.0.0) ∙ at)) refl k.ahead)
    ]

pub none_own : (b : Board) (t : ℕ) → PartnersHold b → ReceivesFrom b t (id_at b t) → ⊥
none_own b t h q = grind (arith, nat_tests, h.other t (id_at b t) q)

own_number : (b : Board) (t : ℕ) (from : ThreadId) → from.number ≡ t → same_id from (id_at b t) ≡ false → IsThere b from → ⊥
own_number b t from e unlike th = grind (arith, nat_tests)

pub number_looks : (g : Programs) (b : Board) (t : ℕ) (from : ThreadId) → IsGood g b → PartnersHold b → ReceivesFrom b t from →
    from.number ≡ t → Looks from (b.context t).at
number_looks g b t from good h q e = elim (h.there t from q) [
  | inl th ↦ absurd (own_number b t from e (h.other t from q) th)
  | inr (inl l) ↦ l
  | inr (inr k) ↦
      let f = subst (λ (p : At). AllSay g b k.by (b.context k.by) (facts_of p)) k.stands (good.places k.by) in
      let dead = (ahead_facts g b k.by (b.context k.by) k.call k.location t k.ahead f).0.1 in
      absurd (true_not (ap (λ (n : ℕ). is_dead (b.seen n).word) (sym (ap (λ (id : ThreadId). id.number) k.victim ∙ e)) ∙ dead)
      (receives_alive (b.seen t).word from q))
]

-- the one to come has a number without a thread, and it is a create that owns the table lock
pub none_to_come : (g : Programs) (b : Board) (i t : ℕ) (c : CreateCall) (id : ThreadId) → PlacesHold g b → PartnersHold b →
    (b.context i).at ≡ InCreate c (create.Locked (create_locked.CommitCreate id)) → ReceivesFrom b t id →
    Looks id (b.context t).at
none_to_come g b i t c id places h at q =
    let f = subst (λ (p : At). AllSay g b i (b.context i) (facts_of p)) at (places i) in
    elim (h.there t id q) [
      | inl th ↦ absurd (dead_not_there b id (ap is_dead f.1.1.1.1.1.1.0.1) th)
      | inr (inl l) ↦ l
      | inr (inr k) ↦ absurd (creates_not (sym at ∙ (ap (λ (n : ℕ). (b.context n).at) (one_owner f.0 k.owns) ∙ k.stands)))
    ]
  where
    creates_not : {d : DestroyCall} {p : CreateAt} {l : DestroyAt} → InCreate c p ≡ InDestroy d l → ⊥
    creates_not e = cc
