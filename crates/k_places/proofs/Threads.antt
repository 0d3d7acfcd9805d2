-- A step of a thread's context shows the board after it, whatever its section.
use Rattle.std.proofs.Common.{◌≡◌, ◌≢◌, ℕ, ◌==◌, true, refl, sym, ap, ◌∙◌, subst, Option, Some, inl, inr}
use Rattle.std.proofs.lemmas.Bool.Decides.{eqb_tells}
use Rattle.k_ids.specs.declared.state_word.StateWord.{StateWord}
use Rattle.k_ids.specs.declared.threads.ThreadId.{ThreadId}
use Rattle.k_locks.specs.declared.goods.Goods.{Goods}
use Rattle.k_locks.specs.declared.points.Point.{Point}
use Rattle.k_locks.specs.Asks.{Ask}
use Rattle.k_locks.specs.Hands.{Hand}
use Rattle.k_model.proofs.Maps.{upd_other, upd_same}
use Rattle.k_script.specs.Script.{Script}
use Rattle.k_caller.specs.declared.activity.Activity.{Activity}
use Rattle.k_caller.specs.declared.activity.Activity.TheVariants as activity
use Rattle.k_caller.specs.Activities.{section_own}
use Rattle.k_caller.specs.Threads.{ThreadSeen}
use Rattle.k_context.specs.Contexts.{ContextSeen, Thread}
use Rattle.k_carrier.specs.Seen.{HandSeen}
use Rattle.k_board.specs.Words.{Programs, noted}
use Rattle.k_board.specs.Boards.{At, Board, Coming, Context}
use Rattle.k_board.specs.Steps.{wrote}
use Rattle.k_good.specs.Locks.{LocksHold, locks_at}
use Rattle.k_places.specs.Contexts.{HoldsGoods, IsShown, ShowsContext, at_in, thread_at}
use Rattle.k_places.specs.Memory.{Memory}
use Rattle.k_places.specs.Asks.{IsAskFit}
use Rattle.k_places.specs.Shows.{AreInPlace, Shows, context_in}
use Rattle.k_places.proofs.Goes.{FitsPoint, Goes, KeepsVersion}
use Rattle.k_places.proofs.Places.{version_held}
use Rattle.k_places.proofs.Steps.{IsStepped, IsUsual, after_step, kept_shown, other_hands, shows_same}
use Rattle.k_places.proofs.Steps.{slots_usual, stepped_shown, versions_after, words_usual}
use Rattle.k_places.proofs.Words.{response_in}

never_coming : (a : Activity) → at_in a ≡ Coming → ⊥
never_coming (activity.Alone p) q = absurd cc
never_coming (activity.Send s) q = absurd cc
never_coming (activity.Receive s) q = absurd cc
never_coming (activity.Create s) q = absurd cc
never_coming (activity.Destroy s) q = absurd cc

pub at_made : (w : StateWord) (t : ThreadSeen) → (w.version == t.id.version) ≡ true → thread_at w t ≡ at_in t.activity
at_made w t e = rw e refl

-- the context on the board once its thread has made a step
abbrev pub context_then : Context → StateWord → At → Context
context_then x own p = record { serial = x.serial; own = own; position = x.position; at = p }

-- what a thread's context shows
pub shown_then : (w : StateWord) (i : ℕ) (x : Context) (t : ThreadSeen) (own : StateWord) (p : At) → t.id.number ≡ i →
    (w.version == t.id.version) ≡ true → t.serial ≡ x.serial → t.position ≡ x.position → at_in t.activity ≡ p →
    section_own t.own t.activity ≡ own → IsShown w i t (context_then x own p)
shown_then w i x t own p num ver se po at ow = record {
  number = num;
  coming = λ q. absurd (never_coming t.activity (at ∙ q));
  context = λ d. record { serial = sym se d; own = sym ow d; position = sym po d; at = (sym at ∙ sym (at_made w t ver)) d };
}

module _ (script : Script) (m : Memory) (b b' : Board) (c i : ℕ) (a : Ask) (h : Hand) (goods : Goods) (k : HandSeen)
    (g : Programs) (sh : Shows script m b) (locks : LocksHold b.owner b.table b.ready b.context) (was : m.hand c ≡ Some k)
    (mine : k.context ≡ i) (fit : IsAskFit m b a) where
  abbrev X : Context
  X = b.context i

  -- a step that leaves the words of contexts, and their slots
  pub thread_keeps : (t : ThreadSeen) (id : ThreadId) (p : At) (own : StateWord) (raw point : Option Point) →
      (after_step script m c i a h (Thread t) raw).context ≡ m.context →
      (after_step script m c i a h (Thread t) raw).slot ≡ m.slot → version_held k ≡ id.version → id.number ≡ i →
      ((b.seen i).word.version == id.version) ≡ true → t.id ≡ id → t.serial ≡ X.serial → t.position ≡ X.position →
      Goes b b' a (locks_at X.at) t.activity t.own p own h raw point (KeepsVersion a) →
      IsStepped g b b' i a (response_in m a h goods) X.position point b.context (context_then X own p) →
      Shows script (after_step script m c i a h (Thread t) raw) b'
  thread_keeps t id p own raw point wu su held num ver is se po go st =
      kept_shown script m b b' c i a h goods k (Thread t) raw (context_then X own p) g X.position sh locks was mine fit wu su
      (ap (λ (z : ThreadId). z.version) is ∙ sym held)
      st' (subst FitsPoint (sym go.point) go.fits) go.version
      (shown_then (b'.seen i).word i X t own p (ap (λ (z : ThreadId). z.number) is ∙ num) same se po go.at go.own_word)
      go.hand go.others go.returned
    where
      st' : IsStepped g b b' i a (response_in m a h goods) X.position raw b.context (context_then X own p)
      st' = record {
        size = st.size;
        seen =
            st.seen ∙ ap (λ (q : Option Point). wrote (noted g b.seen X.position q) a (response_in m a h goods)) (sym go.point);
        owns = st.owns;
        context = st.context;
      }

      version : (b'.seen i).word.version ≡ (b.seen i).word.version
      version =
          versions_after script m b b' c i a h goods k (Thread t) raw
          (context_then X own p) g X.position sh locks was mine fit go.version st'.seen i

      same : ((b'.seen i).word.version == t.id.version) ≡ true
      same = ap (λ n. n == t.id.version) version ∙ ap (λ (z : ThreadId). (b.seen i).word.version == z.version) is ∙ ver

  pub thread_steps : (t : ThreadSeen) (id : ThreadId) (p : At) (own : StateWord) (raw point : Option Point) → IsUsual a →
      version_held k ≡ id.version → id.number ≡ i → ((b.seen i).word.version == id.version) ≡ true → t.id ≡ id →
      t.serial ≡ X.serial → t.position ≡ X.position → Goes b b' a (locks_at X.at) t.activity t.own p own h raw point
      (KeepsVersion a) → IsStepped g b b' i a (response_in m a h goods) X.position point b.context (context_then X own p) →
      Shows script (after_step script m c i a h (Thread t) raw) b'
  thread_steps t id p own raw point u =
      thread_keeps t id p own raw point (words_usual script m b b' c i a h goods k (Thread t) raw
      (context_then X own p) g X.position sh locks was mine fit u)
      (slots_usual script m b b' c i a h goods k (Thread t) raw (context_then X own p) g X.position sh locks was mine fit u)

  -- a step after which another context stands elsewhere too
  module _ (t : ThreadSeen) (id : ThreadId) (p : At) (own : StateWord) (raw point : Option Point) (contexts : ℕ → Context) (n : ℕ)
      (y : Context) where
    abbrev M' : Memory
    M' = after_step script m c i a h (Thread t) raw

    abbrev Found : ℕ → Option ContextSeen
    Found = context_in M'.context M'.slot M'.hand

    pub both_shown : {V : Type 0} → AreInPlace M'.context M'.slot M'.hand → Found i ≡ Some (Thread t) →
        ((j : ℕ) → j ≢ i → j ≢ n → Found j ≡ context_in m.context m.slot m.hand j) → i ≢ n →
        ((j : ℕ) → j ≢ n → (b'.seen j).word.version ≡ (b.seen j).word.version) → contexts n ≡ y →
        ((j : ℕ) → j ≢ n → contexts j ≡ b.context j) → ShowsContext (b'.seen n).word n (Found n) y →
        ((z : ContextSeen) → Found n ≡ Some z → HoldsGoods b' z y.at) → id.number ≡ i →
        ((b.seen i).word.version == id.version) ≡ true → t.id ≡ id → t.serial ≡ X.serial → t.position ≡ X.position →
        Goes b b' a (locks_at X.at) t.activity t.own p own h raw point V →
        IsStepped g b b' i a (response_in m a h goods) X.position point contexts (context_then X own p) → Shows script M' b'
    both_shown places this rest apart versions there others shown holds num ver is se po go st =
        stepped_shown script m b b' c i a h goods k (Thread t) raw
        (context_then X own p) g X.position sh locks was mine fit contexts st'
        (subst FitsPoint (sym go.point) go.fits) go.others go.returned places all hands
      where
        st' : IsStepped g b b' i a (response_in m a h goods) X.position raw contexts (context_then X own p)
        st' = record {
          size = st.size;
          seen =
              st.seen ∙ ap (λ (q : Option Point). wrote (noted g b.seen X.position q) a (response_in m a h goods)) (sym go.point);
          owns = st.owns;
          context = st.context;
        }

        same : ((b'.seen i).word.version == t.id.version) ≡ true
        same =
            ap (λ v. v == t.id.version) (versions i apart) ∙ ap (λ (z : ThreadId). (b.seen i).word.version == z.version) is ∙ ver

        at_this : b'.context i ≡ context_then X own p
        at_this = ap (λ (z : ℕ → Context). z i) st.context ∙ upd_same contexts i (context_then X own p)

        at_other : (j : ℕ) → j ≢ i → b'.context j ≡ contexts j
        at_other j ne = ap (λ (z : ℕ → Context). z j) st.context ∙ upd_other contexts i (context_then X own p) j ne

        mine_shown : ShowsContext (b'.seen i).word i (Found i) (b'.context i)
        mine_shown =
            subst (ShowsContext (b'.seen i).word i (Found i)) (sym at_this)
            (subst (λ (o : Option ContextSeen). ShowsContext (b'.seen i).word i o (context_then X own p)) (sym this)
            (shown_then (b'.seen i).word i X t own p (ap (λ (z : ThreadId). z.number) is ∙ num) same se po go.at go.own_word))

        at_n : b'.context n ≡ y
        at_n = at_other n (λ q. apart (sym q)) ∙ there

        all : (j : ℕ) → ShowsContext (b'.seen j).word j (Found j) (b'.context j)
        all j = elim (eqb_tells j i) [
          | inl e ↦ subst (λ (z : ℕ). ShowsContext (b'.seen z).word z (Found z) (b'.context z)) (sym e.1) mine_shown
          | inr e ↦ elim (eqb_tells j n) [
            | inl q ↦
                subst (λ (z : ℕ). ShowsContext (b'.seen z).word z (Found z) (b'.context z)) (sym q.1)
                (subst (ShowsContext (b'.seen n).word n (Found n)) (sym at_n) shown)
            | inr q ↦
                subst (ShowsContext (b'.seen j).word j (Found j)) (sym (at_other j e.1 ∙ others j q.1))
                (subst (λ (o : Option ContextSeen). ShowsContext (b'.seen j).word j o (b.context j)) (sym (rest j e.1 q.1))
                (shows_same (b.seen j).word (b'.seen j).word j (context_in m.context m.slot m.hand j) (b.context j)
                (versions j q.1) (sh.contexts j)))
          ]
        ]

        some_is : {A : Type 0} {y z : A} → Some y ≡ Some z → y ≡ z
        some_is e = cc

        hands : (j : ℕ) (z : ContextSeen) → Found j ≡ Some z → HoldsGoods b' z (b'.context j).at
        hands j z q = elim (eqb_tells j i) [
          | inl e ↦
              subst (λ (d : ℕ). HoldsGoods b' z (b'.context d).at) (sym e.1)
              (subst (λ (w : Context). HoldsGoods b' z w.at) (sym at_this)
              (subst (λ (w : ContextSeen). HoldsGoods b' w p) (some_is (sym this ∙ ap Found (sym e.1) ∙ q)) go.hand))
          | inr e ↦ elim (eqb_tells j n) [
            | inl d ↦
                subst (λ (x : ℕ). HoldsGoods b' z (b'.context x).at) (sym d.1)
                (subst (λ (w : Context). HoldsGoods b' z w.at) (sym at_n) (holds z (ap Found (sym d.1) ∙ q)))
            | inr d ↦
                subst (λ (w : Context). HoldsGoods b' z w.at) (sym (at_other j e.1 ∙ others j d.1))
                (other_hands script m b b' c i a h goods k (Thread t) raw
                (context_then X own p) g X.position sh locks was mine fit j e.1 go.others z (sym (rest j e.1 d.1) ∙ q))
          ]
        ]
