-- A step of a create brings it nearer to each release; so does one of a switch.
use Rattle.std.proofs.Common.{◌≡◌, ℕ, ◌+◌, ◌≤◌, Bool, true, false, refl, sym, ◌∙◌, arith, []}
use Rattle.k_locks.specs.declared.locks.Lock.{Lock}
use Rattle.k_locks.specs.declared.locks.Lock.TheVariants as lock
use Rattle.k_locks.specs.Asks.{Response, is_again}
use Rattle.k_locks.specs.Hands.{Hand}
use Rattle.k_locks.specs.Locks.{Holds}
use Rattle.k_locks.specs.Tables.{hand_came}
use Rattle.k_locks.proofs.Responses.{Each, made_by}
use Rattle.k_threads.specs.declared.create.CreateCall.{CreateCall}
use Rattle.k_threads.specs.declared.create.CreateOutside.TheVariants.{AcquireTable, Ended}
use Rattle.k_threads.specs.declared.create.CreateLocked.TheVariants.{LoadCaller, PlaceContext}
use Rattle.k_threads.specs.declared.create.CreateLocked.TheVariants.{CommitCreate, AcquireReady, Release}
use Rattle.k_threads.specs.CreateTable.{CreateAt, IsNotLost, Outside, Locked, PushCreated, ask_of}
use Rattle.k_threads.specs.CreateTable.{create_table, hand_after, leads, left_of, locks_of, rest_of}
use Rattle.k_switch.specs.declared.switch.SwitchCall.{SwitchCall}
use Rattle.k_switch.specs.Switches.{SwitchAt}
use Rattle.k_switch.specs.Switches as switch
use Rattle.k_switch.proofs.SwitchRuns as switch_runs
use Rattle.k_board.specs.Words.{Programs}
use Rattle.k_board.specs.Boards.{InCreate, InSwitch, Context, Board, hand_of}
use Rattle.k_board.specs.Facts.{AllSay}
use Rattle.k_board.specs.Places.{facts_create}
use Rattle.k_board.specs.Steps.{Answers, create_at, create_board, switch_board}
use Rattle.k_good.proofs.Owners.{suits_is}
use Rattle.k_sections.specs.Situations.{rest_at}
use Rattle.k_sections.proofs.Falls.{always, brought, ended_rest, fall_by, never}
use Rattle.k_sections.proofs.Tables.{ThreadTables}

-- The steps that are left of a create depend neither on what is in hand nor on a loaded word.
pub same_rest : (c : CreateCall) (h h' : Hand) (there there' : Bool) (p : CreateAt) (k : Lock) →
    rest_of c h there p k ≡ rest_of c h' there' p k
same_rest c h h' there there' p (lock.Thread n) = refl
same_rest c h h' there there' p lock.Table = refl
same_rest c h h' there there' p lock.Ready = refl

rest_above : (c : CreateCall) (h : Hand) (p : CreateAt) (there : Bool) (k : Lock) → rest_of c h true p k ≤ rest_of c h there p k
rest_above c h p there k = let e = same_rest c h h true there p k in omega (arith, e)

module _ (tables : ThreadTables) (g : Programs) (b : Board) (i : ℕ) (c : CreateCall) where
  abbrev pub x : Context
  x = b.context i

  abbrev pub hand : Hand
  hand = hand_of b []

  abbrev Told : CreateAt → Response → Type 0
  Told p r = Answers b (ask_of c x.own p) r → IsNotLost r

  create_tells : (p : CreateAt) → AllSay g b i x (facts_create c p) → Each (ask_of c x.own p) (Told p)
  create_tells (Outside AcquireTable) f = λ an. tt
  create_tells (Outside (Ended w)) f = λ v an. tt
  create_tells (Locked LoadCaller) f = λ w an. tt
  create_tells (Locked (PlaceContext id)) f = λ an. tt
  create_tells (Locked (CommitCreate id)) f = ((λ an. tt), (λ v an. absurd (an.1 (sym an.0 ∙ f.1.1.1.1.1.1.0.1))))
  create_tells (Locked (AcquireReady id)) f = λ an. tt
  create_tells (Locked (Release r)) f = λ an. tt
  create_tells (PushCreated id) f = λ an. tt

  made_rest : (b' : Board) (p : CreateAt) (k : Lock) (h : Hand) → rest_at b' i (create_at c p) k ≤ rest_of c h true p k
  made_rest b' (Outside (Ended w)) k h = let e = ended_rest b' i c.caller w k in omega (arith, e)
  made_rest b' (Outside AcquireTable) k h =
      let e = same_rest c (hand_of b' []) h true true (Outside AcquireTable) k in omega (arith, e)
  made_rest b' (Locked p) k h = let e = same_rest c (hand_of b' []) h true true (Locked p) k in omega (arith, e)
  made_rest b' (PushCreated id) k h = let e = same_rest c (hand_of b' []) h true true (PushCreated id) k in omega (arith, e)

  pub create_falls : (p : CreateAt) → AllSay g b i x (facts_create c p) → (k : Lock) → Holds k (locks_of c p) → (r : Response) →
      Answers b (ask_of c x.own p) r → is_again r ≡ false →
      1 + rest_at (create_board g b i x c p r) i (create_at c (leads c hand p r)) k ≤ rest_at b i (InCreate c p) k
  create_falls p f k holds r may once =
      let a = ask_of c x.own p in
      let b' = create_board g b i x c p r in
      let p' = leads c hand p r in
      let suits = suits_is b a r may in
      fall_by (create_table c) (tables.create_in_time c) (rest_above c) b k x.own hand p r true true
      (rest_at b' i (create_at c p') k) tt holds suits once (made_by a r (Told p) suits once (create_tells p f) may) never always
      (made_rest b' p' k (hand_came r (brought b a) (hand_after c hand p r)))

  pub create_within : (p : CreateAt) (k : Lock) → rest_at b i (InCreate c p) k ≤ left_of c hand p k
  create_within p lock.Table = omega arith
  create_within p lock.Ready = omega arith
  create_within p (lock.Thread n) = omega arith

module _ (b : Board) (i : ℕ) (c : SwitchCall) where
  pub switch_falls : (p : SwitchAt) (k : Lock) → Holds k (switch.locks_of p) → (r : Response) → Answers b (switch.ask_of c p) r →
      is_again r ≡ false → 1 + rest_at (switch_board b i (b.context i) c p r) i
      (InSwitch c (switch.leads c (hand_of b []) p r)) k ≤ rest_at b i (InSwitch c p) k
  switch_falls p k holds r may once =
      let a = switch.ask_of c p in
      let p' = switch.leads c (hand_of b []) p r in
      fall_by (switch.switch_table c) (switch_runs.in_time c) (λ h l there k. omega arith) b k (b.context i).own
      (hand_of b []) p r true true (switch.left_of c p' k) tt holds (suits_is b a r may) once tt never always (omega arith)
