-- A turn with what its context pushes then: the commonest kinds.
use Rattle.std.proofs.Common.{◌≡◌, ℕ, Bool, true, false, cond, refl, sym, ap, ◌∙◌, subst, None}
use Rattle.k_ids.specs.declared.threads.ThreadId.{ThreadId}
use Rattle.k_ids.specs.declared.calls.Reply.{Reply}
use Rattle.k_ids.specs.declared.state_word.StateWord.{StateWord}
use Rattle.k_locks.specs.declared.steps.Went.TheVariants as went
use Rattle.k_locks.specs.Shown.{is_dead}
use Rattle.k_board.specs.Boards.{At, Board}
use Rattle.k_board.specs.Steps.{after}
use Rattle.k_tokens.specs.World.{World, Awake, Dead, no_locks}
use Rattle.k_grants.specs.Views.{Look, look_at, plain, sights_of}
use Rattle.k_grants.specs.Pushes.{PushSays, board_threads}
use Rattle.k_grants.specs.Granted.{Agrees, Finding, IsWait}
use Rattle.k_grants.proofs.Granting.{IsDying, IsMoved, IsQuiet, IsUnready, dies, goes_on, waits_by}
use Rattle.k_grants.proofs.Looks.{dying, silent}
use Rattle.k_grants.proofs.Says.{Turned, silently}
use Rattle.k_grants.proofs.Worlds.{world_of}

module _ (w : World) (b : Board) (k i : ℕ) (a : Agrees b w) (f : Finding) (p : At) (at : (b.context i).at ≡ p) (b' : Board)
    (q : At) (m : IsMoved b b' i q)
    (u : IsUnready b b') (t : b'.table ≡ b.table) (e : sights_of b' ≡ sights_of b) where
  pub goes : (look_at p).push ≡ None → IsQuiet p q → Turned b' (world_of w b) k i f false q
  goes n h = silently (goes_on w b k i a f p at b' q m u e t h) (h.about.push ∙ n)

  -- .. with a thread to push
  pub carries : IsQuiet p q → PushSays b'.seen (board_threads b') q → Turned b' (world_of w b) k i f false q
  carries h s = record { granted = goes_on w b k i a f p at b' q m u e t h; says = s }

  pub dead : is_dead (b.seen i).word ≡ true → IsDying p q → Turned b' (world_of w b) k i f false q
  dead d h = silently (dies w b k i a f p at b' q m u e t d h) (h.about.push ∙ h.push)

  -- a lock is owned: the same step again
  pub waits : IsWait f.waits → look_at q ≡ look_at p → (look_at p).locks.ready ≡ false → PushSays b'.seen (board_threads b') q →
      Turned b' (world_of w b) k i f true q
  waits y h r s = record { granted = waits_by w b k i a f p at b' q m u y e t h r; says = s }

  -- the caller's word tells whether it goes on
  pub by_life : (me : ThreadId) (v : StateWord) (r : Reply) → q ≡ after me (cond (is_dead v) went.CallerDead (went.Ends r)) →
      (b.seen i).word ≡ v → look_at p ≡ plain Awake
      → Turned b' (world_of w b) k i f false q
  by_life me v r n is l = go (is_dead v) refl
    where
      go : (d : Bool) → is_dead v ≡ d → Turned b' (world_of w b) k i f false q
      go true d = dead (ap is_dead is ∙ d)
          (subst (IsDying p) (sym (n ∙ ap (λ (d : Bool). after me (cond d went.CallerDead (went.Ends r))) d))
          (dying (sym (ap (λ (x : Look). record x { condition = Dead; locks = no_locks }) l)) (ap (λ (x : Look). x.locks.table) l)
          (ap (λ (x : Look). x.locks.ready) l) (ap (λ (x : Look). x.push) l)))
      go false d = goes (ap (λ (x : Look). x.push) l)
          (subst (IsQuiet p) (sym (n ∙ ap (λ (d : Bool). after me (cond d went.CallerDead (went.Ends r))) d))
          (silent (sym (ap (λ (x : Look). record x { locks = no_locks }) l)) (sym (ap (λ (x : Look). x.locks.table) l))
          (sym (ap (λ (x : Look). x.locks.ready) l)) (ap (λ (x : Look). x.push) l)))

pub own_is : (b : Board) (i n : ℕ) (v : StateWord) → n ≡ i → (b.seen n).word ≡ v → (b.seen i).word ≡ v
own_is b i n v e d = ap (λ (z : ℕ). (b.seen z).word) (sym e) ∙ d
