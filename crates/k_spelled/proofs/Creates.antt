-- A create: what it writes has a spelling.
use Rattle.std.proofs.Common.{◌≡◌, ℕ, ◌+◌, ◌≤◌, ◌<◌, true, subst, length, arith}
use Rattle.std.specs.Prelude.{nat_lt, ◌^◌}
use Rattle.std.proofs.lemmas.Bool.{and_parts}
use Rattle.std.proofs.lemmas.Bool.Decides.{nat_tests}
use Rattle.k_ids.specs.declared.threads.ThreadId.{ThreadId}
use Rattle.k_ids.specs.StateWords.{IsStateWord}
use Rattle.k_model.specs.Step.{last_version}
use Rattle.k_model.proofs.Maps.{lowest-Some}
use Rattle.k_locks.specs.Numbers.{is_free, version_at}
use Rattle.k_script.specs.Plays.{IsInRange}
use Rattle.k_threads.specs.declared.create.CreateCall.{CreateCall}
use Rattle.k_threads.specs.declared.create.CreateLocked.TheVariants.{CommitCreate}
use Rattle.k_threads.specs.declared.create.CreateOutside.TheVariants.{AcquireTable, Ended}
use Rattle.k_threads.specs.CreateTable.{CreateAt, Locked, Outside}
use Rattle.k_threads.specs.CreateTable as create
use Rattle.k_board.specs.Words.{Programs}
use Rattle.k_board.specs.Boards.{Board, Context}
use Rattle.k_board.specs.Facts.{AllSay, Chosen, Says}
use Rattle.k_board.specs.Places.{facts_create}
use Rattle.k_turns.specs.Spelled.{IsSpelled}
use Rattle.k_spelled.proofs.Spellings.{created_spelled}

some_version : (v n : ℕ) → v ≡ n + 1 → 1 ≤ v
some_version v n e = omega (arith, e)

last_is : (v n : ℕ) → v ≡ n + 1 → nat_lt n last_version ≡ true → v ≤ 1048575
last_is v n e l = grind (arith, nat_tests)

module _ (g : Programs) (b : Board) (i : ℕ) (x : Context) (count : length b.numbers.versions ≡ b.size) where
  -- the thread that is chosen is one of the table, and its version is in the range
  pub chosen_in : (id : ThreadId) → Says g b i x (Chosen id) → IsInRange b.size id
  chosen_in id q =
      let low = lowest-Some (is_free b.numbers) (length b.numbers.versions) id.number q.1 in
      record {
        number = subst (λ (n : ℕ). id.number < n) count low.0;
        first = some_version id.version (version_at b.numbers id.number) q.2;
        last = last_is id.version (version_at b.numbers id.number) q.2 (and_parts _ _ low.1).1;
      }

  pub create_spelled : ((t : ℕ) → IsStateWord (b.seen t).word) → (c : CreateCall) (p : CreateAt) →
      c.priority < 64 →
      AllSay g b i x (facts_create c p) → IsSpelled b.size (create.ask_of c x.own p)
  create_spelled words c (Locked (CommitCreate id)) low h =
      let is = chosen_in id h.1.1.1.1.1.0 in
      let small : id.version < 2 ^ 20 = omega (arith, is.last) in (
        subst IsStateWord h.1.1.1.1.1.1.0.1 (words id.number),
        created_spelled id.version c.priority is.first
            small low,
      )
  create_spelled words c (Outside AcquireTable) low h = tt
  create_spelled words c (Outside (Ended w)) low h = tt
  create_spelled words c p low h = tt
