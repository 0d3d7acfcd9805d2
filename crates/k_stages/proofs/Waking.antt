-- A sleeping thread is woken.
use Rattle.std.proofs.Common.{◌≡◌, ℕ, refl, sym, ap, ◌∙◌, Bool, None, false}
use Rattle.k_model.specs.Maps.{upd}
use Rattle.k_caller.specs.declared.thread.ThreadLocation.TheVariants as location
use Rattle.k_board.specs.Boards.{Alone, Board, Context}
use Rattle.k_board.specs.Steps.{placed}
use Rattle.k_tokens.specs.World.{Threads, World}
use Rattle.k_tokens.specs.Steps.{awakened}
use Rattle.k_tokens.proofs.Views.{owner_stays, view_stays, view_upd}
use Rattle.k_switching.specs.Rules.{taken_asleep}
use Rattle.k_grants.specs.Views.{Look, look_at, looks_of, made_by, sights_of, threads_by, threads_of}
use Rattle.k_grants.specs.Granted.{Agrees}
use Rattle.k_grants.proofs.Moves.{threads_are}

module _ (b : Board) (w : World) (c i : ℕ) (a : Agrees b w) (at : (b.context i).at ≡ Alone location.Asleep) where
  abbrev x : Context
  x = record (b.context i) { at = Alone location.LookAgain }

  abbrev l : ℕ → Look
  l = looks_of b

  abbrev q : Look
  q = look_at (Alone location.LookAgain)

  was : {A : Type 0} (h : Look → A) → h (look_at (Alone location.Asleep)) ≡ h (l i)
  was h = ap (λ p. h (look_at p)) (sym at)

  looks : looks_of (placed b i x) ≡ upd l i q
  looks = view_upd (λ (y : Context). look_at y.at) b.context i x

  woken : threads_by w.threads.priority (sights_of b) (upd l i q) b.table ≡ awakened (threads_of w.threads.priority b) i
  woken = threads_are refl refl refl refl refl
      (view_upd (λ (y : Look). y.condition) l i q)
      (ap (λ (f : ℕ → Bool). λ t. made_by (f t) (sights_of b t).version)
      (view_stays (λ (y : Look). y.is_coming) l i q (was (λ y. y.is_coming))))
      (view_stays (λ (y : Look). y.locks) l i q (was (λ y. y.locks)))
      (view_stays (λ (y : Look). y.push) l i q (was (λ y. y.push)))
      refl
      (owner_stays None (λ (y : Look). y.victim) l b.table i q (λ z. was (λ y. y.victim)))
      (owner_stays false (λ (y : Look). y.listed) l b.table i q (λ z. was (λ y. y.listed)))
      (owner_stays None (λ (y : Look). y.making) l b.table i q (λ z. was (λ y. y.making)))

  pub wakes_agree : Agrees (placed b i x) (taken_asleep w c i)
  wakes_agree = record {
    threads =
        ap (λ (t : Threads). awakened t i) a.threads ∙ sym woken
        ∙ ap (λ (f : ℕ → Look). threads_by w.threads.priority (sights_of b) f b.table) (sym looks);
    priorities = a.priorities;
    ready = a.ready;
    lists = a.lists;
    whole = a.whole;
    running = a.running;
  }
