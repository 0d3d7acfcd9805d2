-- What each step of a create takes.
use Rattle.std.proofs.Common.{◌≡◌, ℕ, ◌+◌, ◌≤◌, Bool, true, false, refl, sym, ap, ◌∙◌, subst, arith, Option}
use Rattle.std.proofs.Common.{Some, None, [], inl, inr}
use Rattle.std.specs.Prelude.{if◌then◌else◌}
use Rattle.k_ids.specs.declared.state_word.StateWord.{StateWord}
use Rattle.k_locks.specs.Asks.{Response}
use Rattle.k_locks.specs.Asks as asks
use Rattle.k_locks.specs.Hands.{Hand}
use Rattle.k_locks.specs.Numbers.{lowest_free}
use Rattle.k_locks.specs.Shown.{is_dead}
use Rattle.k_locks.specs.declared.points.Point.{Point}
use Rattle.k_locks.proofs.Responses.{Each}
use Rattle.k_script.specs.Plays.{Position}
use Rattle.k_threads.specs.declared.create.CreateCall.{CreateCall}
use Rattle.k_threads.specs.declared.create.CreateOutside.TheVariants.{AcquireTable, Ended}
use Rattle.k_threads.specs.declared.create.CreateLocked.TheVariants.{LoadCaller, PlaceContext, CommitCreate}
use Rattle.k_threads.specs.declared.create.CreateLocked.TheVariants.{AcquireReady, Release}
use Rattle.k_threads.specs.declared.create.CreateRelease.TheVariants as release
use Rattle.k_threads.specs.CreateTable.{CreateAt, Outside, Locked, PushCreated, choose, full_point}
use Rattle.k_threads.specs.CreateTable as create
use Rattle.k_board.specs.Words.{Programs}
use Rattle.k_board.specs.Boards.{InCreate, Context, Board, hand_of}
use Rattle.k_board.specs.Facts.{AllSay}
use Rattle.k_board.specs.Places.{facts_create}
use Rattle.k_board.specs.Steps.{Answers, create_board, create_context}
use Rattle.k_owed.specs.Owes.{owes_at, rest_of}
use Rattle.k_owed.specs.Owed.{owed_at}
use Rattle.k_owed.proofs.Entries.{pushed_entries}
use Rattle.k_owed.proofs.Lowers.{Lowers, Spends}

module _ (g : Programs) (work : Position → ℕ) (b : Board) (i : ℕ) (c : CreateCall) where
  abbrev x : Context
  x = b.context i

  abbrev hand : Hand
  hand = hand_of b []

  abbrev now : CreateAt → Response → Board
  now p r = create_board g b i x c p r

  abbrev rest : ℕ
  rest = rest_of work b x

  abbrev Told : CreateAt → Response → Type 0
  Told p r = Answers b (create.ask_of c x.own p) r → create.points c (b.seen i).word hand p r ≡ None →
      Spends work b i (InCreate c p) (now p r) (create_context x c p r hand) r

  -- a number is chosen; where there is none, that is decided
  chosen : (b' : Board) (own : StateWord) (dead : Bool) (o : Option ℕ) →
      ◌≡◌ {A = Option Point} (if dead then None else full_point c b.numbers o) None →
      owes_at rest b' i own (InCreate c (Locked (if dead then Release release.Dead else choose b.numbers
      o))) + 1 ≤ 3
  chosen b' own true o e = omega arith
  chosen b' own false (Some n) e = omega arith
  chosen b' own false None e = absurd cc

  pub create_owes : (p : CreateAt) → AllSay g b i x (facts_create c p) →
      Each (create.ask_of c x.own p) (Told p)
  create_owes (Outside AcquireTable) f =
      λ an silent. inr (
        (λ z. absurd cc),
        record {
          falls = omega arith;
          exchanges = omega arith;
          entries =
              omega arith;
        },
      )
  create_owes (Outside (Ended w)) f = λ v an silent. absurd f.0
  create_owes (Locked LoadCaller) f =
      λ w an silent. inr (
        (λ z. absurd cc),
        record {
          falls = chosen (now (Locked LoadCaller) (asks.Word w)) x.own (is_dead w) (lowest_free b.numbers)
              silent;
          exchanges = omega arith;
          entries = omega arith;
        },
      )
  create_owes (Locked (PlaceContext id)) f =
      λ an silent. inr (
        (λ z. absurd cc),
        record {
          falls = omega arith;
          exchanges = omega arith;
          entries =
              omega arith;
        },
      )
  create_owes (Locked (CommitCreate id)) f =
      ((λ an silent. absurd cc), (λ v an silent. absurd (an.1 (sym an.0 ∙ f.1.1.1.1.1.1.0.1))))
  create_owes (Locked (AcquireReady id)) f =
      λ an silent. inr (
        (λ z. absurd cc),
        record {
          falls = omega arith;
          exchanges = omega arith;
          entries =
              omega arith;
        },
      )
  create_owes (Locked (Release (release.Made id))) f =
      λ an silent. inr (
        (λ z. absurd cc),
        record {
          falls = omega arith;
          exchanges = omega arith;
          entries =
              omega arith;
        },
      )
  create_owes (Locked (Release (release.Full alive worn))) f =
      λ an silent. inr (
        (λ z. absurd cc),
        record {
          falls = omega arith;
          exchanges = omega arith;
          entries =
              omega arith;
        },
      )
  create_owes (Locked (Release release.Dead)) f =
      λ an silent. inr (
        (λ z. absurd cc),
        record {
          falls = omega arith;
          exchanges = omega arith;
          entries =
              omega arith;
        },
      )
  create_owes (PushCreated id) f =
      λ an silent. inr (
        (λ z. absurd cc),
        record {
          falls = omega arith;
          exchanges = omega arith;
          entries = pushed_entries id c.priority b.lists;
        },
      )
