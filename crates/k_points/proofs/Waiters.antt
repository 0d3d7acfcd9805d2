-- What a receive's section finds in its queue is what the specification finds in the list.
use Rattle.std.proofs.Common.{◌≡◌, ℕ, Bool, true, false, cond, refl, sym, ap, ◌∙◌, Option}
use Rattle.std.proofs.Common.{Some, None, List, [], ◌∷◌, ◌++◌, length, map, get_or, position}
use Rattle.std.specs.Prelude.{if◌then◌else◌, ◌==◌}
use Rattle.std.specs.List.{AllByRecursion, filter}
use Rattle.std.proofs.Math.Seq.{get_or-append_seam}
use Rattle.k_ids.specs.declared.threads.ThreadId.{ThreadId}
use Rattle.k_lists.proofs.Positions.{absent_found, position_behind}
use Rattle.k_model.specs.State.{KernelState, Waiting, admits}
use Rattle.k_model.specs.Step.{entry_at, match_at, no_one}
use Rattle.k_senders.specs.declared.entries.SenderEntry.{SenderEntry}
use Rattle.k_senders.specs.Entries.{message_of, number_of, sender_of}
use Rattle.k_senders.specs.Queue.{entry_of}
use Rattle.k_locks.specs.Queues.{before}
use Rattle.k_ipc.specs.declared.receive.ReceiveCall.{ReceiveCall}
use Rattle.k_ipc.specs.ReceiveTable.{still_waits}
use Rattle.k_board.specs.Words.{Seen}
use Rattle.k_board.specs.Boards.{Board}
use Rattle.k_board.specs.Facts.{NoneWaits, waits_for}
use Rattle.k_shown.specs.Memory.{waiting_of}
use Rattle.k_points.specs.Points.{waiting_shown}

-- this entry is the first of the receiver's list whom it wants
pub record IsFirst (k : KernelState) (me : ThreadId) (from : Option ThreadId) (e : SenderEntry) : Type 0 where
  pub at : ℕ
  pub first : match_at k me from ≡ Some at
  pub entry : entry_at k me.number at ≡ (sender_of e, message_of e)

-- THE ENTRIES THAT WAIT

module _ (c : ReceiveCall) (s : ℕ → Seen) where
  abbrev waits : SenderEntry → Bool
  waits e = still_waits c e (s (number_of e)).word

  abbrev waiting_in : List SenderEntry → List Waiting
  waiting_in es = map waiting_of (filter waits es)

  abbrev AllUnwanted : List Waiting → Type 0
  AllUnwanted ws = AllByRecursion (λ w. admits c.from w.0 ≡ false) ws

  unwanted : (es : List SenderEntry) → NoneWaits c s es → AllUnwanted (waiting_in es)
  unwanted [] h = tt
  unwanted (e ∷ es) h = go (waits e) (admits c.from (sender_of e)) refl refl (unwanted es h.1)
    where
      go : (w a : Bool) → waits e ≡ w → admits c.from (sender_of e) ≡ a → AllUnwanted (waiting_in es) →
          AllUnwanted (map waiting_of (cond w (e ∷ filter waits es) (filter waits es)))
      go false a p q rest = rest
      go true false p q rest = (q, rest)
      go true true p q rest = absurd (let no = h.0 q in cc)

  -- the entry between those that are passed over and the others
  record Split (e : SenderEntry) (ws : List Waiting) : Type 0 where
    passed : List Waiting
    others : List Waiting
    list : ws ≡ passed ++ waiting_of e ∷ others
    unwanted_ : AllUnwanted passed

  same_entry : (f e : SenderEntry) → Some f ≡ Some e → f ≡ e
  same_entry f e q = cc

  split : (es : List SenderEntry) (e : SenderEntry) → entry_of (number_of e) es ≡ Some e → waits e ≡ true →
      NoneWaits c s (before (number_of e) es) → Split e (waiting_in es)
  split [] e o w h = absurd cc
  split (f ∷ es) e o w h = go (number_of f == number_of e) refl o h (split es e)
    where
      skips : (v a : Bool) → waits f ≡ v → admits c.from (sender_of f) ≡ a →
          (admits c.from (sender_of f) ≡ true → waits f ≡ false) → Split e (waiting_in es) →
          Split e (map waiting_of (cond v (f ∷ filter waits es) (filter waits es)))
      skips false a p q n r = r
      skips true false p q n r = record {
        passed = waiting_of f ∷ r.passed;
        others = r.others;
        list = ap (λ (ws : List Waiting). waiting_of f ∷ ws) r.list;
        unwanted_ = (q, r.unwanted_);
      }
      skips true true p q n r = absurd (let no = n q in cc)

      heads : f ≡ e → Split e (waiting_in (f ∷ es))
      heads q = record {
        passed = [];
        others = waiting_in es;
        list =
            ap (λ (d : Bool). map waiting_of (cond d (f ∷ filter waits es) (filter waits es))) (ap waits q ∙ w)
            ∙ ap (λ (g : SenderEntry). waiting_of g ∷ waiting_in es) q;
        unwanted_ = tt;
      }

      go : (a : Bool) → (number_of f == number_of e) ≡ a → (if a then Some f else entry_of (number_of e) es) ≡ Some e →
          NoneWaits c s (if a then [] else f ∷ before (number_of e) es) →
          (entry_of (number_of e) es ≡ Some e → waits e ≡ true → NoneWaits c s (before (number_of e) es) →
          Split e (waiting_in es)) →
          Split e (waiting_in (f ∷ es))
      go true t so sh rest = heads (same_entry f e so)
      go false t so sh rest = skips (waits f) (admits c.from (sender_of f)) refl refl sh.0 (rest so w sh.1)

-- THE LIST OF THE CALLER, where its section has its own lock

module _ (b : Board) (k : KernelState) (c : ReceiveCall) (v : c.caller.version ≡ (b.seen c.caller.number).word.version)
    (list : (k.place c.caller.number).waiting ≡ waiting_shown b c.caller.number) where
  list_is : (k.place c.caller.number).waiting ≡ waiting_in c b.seen (b.queue c.caller.number)
  list_is =
      list
      ∙ ap (λ (id : ThreadId). map waiting_of (filter (λ e. waits_for id e (b.seen (number_of e)).word)
      (b.queue c.caller.number))) (λ d. record c.caller { version = sym v d })

  pub none_found : NoneWaits c b.seen (b.queue c.caller.number) → match_at k c.caller c.from ≡ None
  none_found h =
      ap (λ (ws : List Waiting). position (λ w. admits c.from w.0) ws) list_is
      ∙ absent_found (λ (w : Waiting). admits c.from w.0) (waiting_in c b.seen (b.queue c.caller.number))
      (unwanted c b.seen (b.queue c.caller.number) h)

  pub first_found : (e : SenderEntry) → entry_of (number_of e) (b.queue c.caller.number) ≡ Some e →
      admits c.from (sender_of e) ≡ true → still_waits c e (b.seen (number_of e)).word ≡ true →
      NoneWaits c b.seen (before (number_of e) (b.queue c.caller.number)) → IsFirst k c.caller c.from e
  first_found e o a w h =
      let r = split c b.seen (b.queue c.caller.number) e o w h in
      record {
        at = length r.passed;
        first =
            ap (λ (ws : List Waiting). position (λ w. admits c.from w.0) ws) (list_is ∙ r.list)
            ∙ position_behind (λ (w : Waiting). admits c.from w.0) r.passed (waiting_of e) r.others r.unwanted_ a;
        entry =
            ap (λ (ws : List Waiting). get_or ws (length r.passed) no_one) (list_is ∙ r.list)
            ∙ get_or-append_seam r.passed (waiting_of e) r.others no_one;
      }
