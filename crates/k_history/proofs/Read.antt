-- What the words of a line are read as is what they spell, and it is within its ranges.
use Rattle.std.proofs.Common.{◌≡◌, ℕ, ◌+◌, ◌≤◌, Bool, true, false, cond, leb, ◌&&◌, append_assoc, List, [], ◌∷◌, ◌++◌, get_or, take, drop, refl, sym, subst, ap, ◌∙◌, arith, Option, Some, None, inl, inr, option_map, option_and_then, decimal, position}
use Rattle.std.specs.Str.{bytes_eq}
use Rattle.std.specs.Prelude.{codes, is_some}
use Rattle.std.proofs.lemmas.Bool.{leb-true, and_parts}
use Rattle.std.proofs.lemmas.List.{append-nil}
use Rattle.std.proofs.lemmas.Slice.Eq.{bytes_eq-Decides}
use Rattle.k_ids.specs.declared.threads.ThreadId.{ThreadId}
use Rattle.k_ids.specs.declared.threads.Message.{Message}
use Rattle.k_ids.specs.declared.threads.Status.{Status}
use Rattle.k_ids.specs.declared.threads.Status.TheVariants as status
use Rattle.k_ids.specs.declared.threads.Found.{Found}
use Rattle.k_ids.specs.declared.calls.Phase.{Phase}
use Rattle.k_ids.specs.declared.calls.Phase.TheVariants as phase
use Rattle.k_ids.specs.declared.calls.Act.{Act}
use Rattle.k_ids.specs.declared.calls.Act.TheVariants as act
use Rattle.k_ids.specs.declared.calls.Outcome.{Outcome}
use Rattle.k_ids.specs.declared.calls.Outcome.TheVariants as outcome
use Rattle.k_ids.specs.declared.histories.Entry.{Entry}
use Rattle.k_text.specs.Numbers.{number_of}
use Rattle.k_text.specs.Texts.{Word, id_word, message_words, status_words, found_words, now_words, send_word, phase_words, act_words, full_words, outcome_words, is_printed, result_words, entry_words}
use Rattle.k_text.proofs.Digits.{number-read}
use Rattle.k_history.specs.Fits.{FitsId, FitsMessage, FitsStatus, FitsFound, FitsPhase, FitsAct, FitsOutcome, FitsTogether, FitsEntry}
use Rattle.k_history.specs.Reading.{is_dot, at_least, id_at, id_of, message_of, zero_of, told_send, send_of, reply_of, receive_of, wait_of, create_of, destroy_of, end_of, phase_of, alone, act_of, sending_of, receiving_of, shown, status_of, found_of, took_of, made_of, full_of, just, outcome_of, silent_outcome, is_arrow, told, silent_of, spoken_of, result_at, result_of, entry_of}
use Rattle.k_history.proofs.Options.{chosen, mapped, bound}
use Rattle.k_history.proofs.Parts.{cut_back}
use Rattle.k_history.proofs.Cut.{cut_apart}

word_is : (w k : Word) → bytes_eq w k ≡ true → w ≡ k
word_is w k e = (bytes_eq-Decides w k).0 e

-- the two numbers and the dot
id_parts : (a b x y w : List ℕ) → w ≡ a ++ 46 ∷ b → a ≡ x → b ≡ y → w ≡ x ++ codes "." ++ y
id_parts a b x y w h e f = h ∙ ap (λ (t : List ℕ). t ++ 46 ∷ b) e ∙ ap (λ (t : List ℕ). x ++ 46 ∷ t) f ∙ sym (append_assoc x (46 ∷ []) y)

pub id-read : (least : ℕ) (w : Word) (id : ThreadId) → id_of least w ≡ Some id → (w ≡ id_word id) × FitsId least id
unfolding id_of
id-read least w id h = go (position is_dot w) refl h
  where
    go : (o : Option ℕ) → position is_dot w ≡ o → id_at least w o ≡ Some id → (w ≡ id_word id) × FitsId least id
    go None e k = absurd cc
    go (Some at) e k =
        let b = bound (λ number. option_map (λ version. record { number = number; version = version }) (option_and_then (at_least least) (number_of 1048575 (drop (at + 1) w)))) (number_of 63 (take at w)) id k in
        let m = mapped (λ version. record { number = b.0; version = version }) (option_and_then (at_least least) (number_of 1048575 (drop (at + 1) w))) id b.2 in
        let v = bound (at_least least) (number_of 1048575 (drop (at + 1) w)) m.0 m.1 in
        let n = number-read 63 b.0 (take at w) (omega arith) b.1 in
        let r = number-read 1048575 v.0 (drop (at + 1) w) (omega arith) v.1 in
        elim (chosen (leb least v.0) (Some v.0) None (Some m.0) v.2) [
          | inl p ↦
              let some : Some v.0 ≡ Some m.0 = p.1 in
              let same : v.0 ≡ m.0 = cc in
              let n0 = n.0 in
              let r0 : drop (at + 1) w ≡ decimal m.0 = r.0 ∙ ap decimal same in
              let low : least ≤ v.0 = leb-true least v.0 p.0 in
              rw (← m.2) (id_parts (take at w) (drop (at + 1) w) (decimal b.0) (decimal m.0) w (cut_back 46 w at e) n0 r0, record { number = n.1; first = omega arith; last = omega (arith, r.1) })
          | inr p ↦ let no : None ≡ Some m.0 = p.1 in absurd cc
        ]

pub message-read : (a b : Word) (m : Message) → message_of a b ≡ Some m → (a ∷ b ∷ [] ≡ message_words m) × FitsMessage m
unfolding message_of
message-read a b m h =
    let low = bound (λ x. option_map (λ y. record { low = x; high = y }) (number_of 4294967295 b)) (number_of 4294967295 a) m h in
    let high = mapped (λ y. record { low = low.0; high = y }) (number_of 4294967295 b) m low.2 in
    let e = number-read 4294967295 low.0 a (omega arith) low.1 in
    let f = number-read 4294967295 high.0 b (omega arith) high.1 in
    let e0 = e.0 in
    let f0 = f.0 in
    rw (← high.2) (cc, record { low = e.1; high = f.1 })

zero-read : (ws : List Word) (z : Bool) → zero_of ws ≡ Some z → ws ≡ now_words z
unfolding zero_of
zero-read [] z h = let e : false ≡ z = cc in rw (← e) refl
zero-read (w ∷ []) z h = elim (chosen (bytes_eq w (codes "now")) (Some true) None (Some z) h) [
  | inl p ↦ let e : Some true ≡ Some z = p.1 in let f : true ≡ z = cc in rw (← f) (ap (λ (x : Word). x ∷ []) (word_is w (codes "now") p.0))
  | inr p ↦ let no : None ≡ Some z = p.1 in absurd cc
]
zero-read (w ∷ x ∷ ws) z h = absurd cc

-- PHASES

abbrev pub Reads : List Word → Phase → Type 0
Reads ws p = (ws ≡ phase_words p) × FitsPhase p

parted_message : (t a b : Word) (ws : List Word) (to : ThreadId) (m : Message) (z : Bool) → t ≡ id_word to → a ∷ b ∷ [] ≡ message_words m → ws ≡ now_words z → t ∷ a ∷ b ∷ ws ≡ id_word to ∷ (message_words m ++ now_words z)
parted_message t a b ws to m z e f g = rw (e, g) (ap (λ (x : List Word). id_word to ∷ (x ++ now_words z)) f)

send-read : (j : Bool) (ws : List Word) (p : Phase) → send_of j ws ≡ Some p → Reads (send_word j ∷ ws) p
unfolding send_of
send-read j [] p h = absurd cc
send-read j (t ∷ []) p h = absurd cc
send-read j (t ∷ a ∷ []) p h = absurd cc
send-read j (t ∷ a ∷ b ∷ ws) p h =
    let to = bound (λ t. option_and_then (λ m. option_map (λ z. told_send j t m z) (zero_of ws)) (message_of a b)) (id_of 1 t) p h in
    let m = bound (λ m. option_map (λ z. told_send j to.0 m z) (zero_of ws)) (message_of a b) p to.2 in
    let z = mapped (λ z. told_send j to.0 m.0 z) (zero_of ws) p m.2 in
    let e = id-read 1 t to.0 to.1 in
    let f = message-read a b m.0 m.1 in
    rw (← z.2) (ap (λ (x : List Word). send_word j ∷ x) (parted_message t a b ws to.0 m.0 z.0 e.0 f.0 (zero-read ws z.0 z.1)), (e.1, f.1))

reply-read : (ws : List Word) (p : Phase) → reply_of ws ≡ Some p → Reads (codes "reply" ∷ ws) p
unfolding reply_of
reply-read [] p h = absurd cc
reply-read (t ∷ []) p h = absurd cc
reply-read (t ∷ a ∷ []) p h = absurd cc
reply-read (t ∷ a ∷ b ∷ ws) p h =
    let to = bound (λ t. option_and_then (λ m. option_map (λ z. phase.Reply t m z) (zero_of ws)) (message_of a b)) (id_of 1 t) p h in
    let m = bound (λ m. option_map (λ z. phase.Reply to.0 m z) (zero_of ws)) (message_of a b) p to.2 in
    let z = mapped (λ z. phase.Reply to.0 m.0 z) (zero_of ws) p m.2 in
    let e = id-read 1 t to.0 to.1 in
    let f = message-read a b m.0 m.1 in
    rw (← z.2) (ap (λ (x : List Word). codes "reply" ∷ x) (parted_message t a b ws to.0 m.0 z.0 e.0 f.0 (zero-read ws z.0 z.1)), (e.1, f.1))

receive-read : (ws : List Word) (p : Phase) → receive_of ws ≡ Some p → Reads (codes "receive" ∷ ws) p
unfolding receive_of
receive-read [] p h = absurd cc
receive-read (t ∷ ws) p h =
    let from = bound (λ f. option_map (λ z. phase.Receive (Some f) z) (zero_of ws)) (id_of 1 t) p h in
    let z = mapped (λ z. phase.Receive (Some from.0) z) (zero_of ws) p from.2 in
    let e = id-read 1 t from.0 from.1 in
    rw (← z.2) (ap (λ (x : Word). codes "receive" ∷ x ∷ ws) e.0 ∙ ap (λ (x : List Word). codes "receive" ∷ id_word from.0 ∷ x) (zero-read ws z.0 z.1), e.1)

wait-read : (ws : List Word) (p : Phase) → wait_of ws ≡ Some p → Reads (codes "wait" ∷ ws) p
unfolding wait_of
wait-read ws p h =
    let z = mapped (λ z. phase.Receive None z) (zero_of ws) p h in
    rw (← z.2) (ap (λ (x : List Word). codes "wait" ∷ x) (zero-read ws z.0 z.1), tt)

create-read : (ws : List Word) (p : Phase) → create_of ws ≡ Some p → Reads (codes "create" ∷ ws) p
unfolding create_of
create-read [] p h = absurd cc
create-read (a ∷ []) p h = absurd cc
create-read (a ∷ b ∷ []) p h =
    let x = bound (λ p. option_map (λ q. phase.Create p q) (number_of 63 b)) (number_of 254 a) p h in
    let y = mapped (λ q. phase.Create x.0 q) (number_of 63 b) p x.2 in
    let e = number-read 254 x.0 a (omega arith) x.1 in
    let f = number-read 63 y.0 b (omega arith) y.1 in
    let e0 = e.0 in
    let f0 = f.0 in
    rw (← y.2) (cc, (e.1, f.1))
create-read (a ∷ b ∷ c ∷ ws) p h = absurd cc

destroy-read : (ws : List Word) (p : Phase) → destroy_of ws ≡ Some p → Reads (codes "destroy" ∷ ws) p
unfolding destroy_of
destroy-read [] p h = absurd cc
destroy-read (t ∷ []) p h =
    let m = mapped (λ w. phase.Destroy w) (id_of 1 t) p h in
    let e = id-read 1 t m.0 m.1 in
    rw (← m.2) (ap (λ (x : Word). codes "destroy" ∷ x ∷ []) e.0, e.1)
destroy-read (t ∷ w ∷ ws) p h = absurd cc

end-read : (ws : List Word) (p : Phase) → end_of ws ≡ Some p → Reads (codes "end" ∷ ws) p
unfolding end_of
end-read [] p h = let e : phase.End ≡ p = cc in rw (← e) (refl, tt)
end-read (w ∷ ws) p h = absurd cc

-- the first word is this one, and the rest is read so
first_is : (k w : Word) (ws : List Word) (p : Phase) → bytes_eq w k ≡ true → Reads (k ∷ ws) p → Reads (w ∷ ws) p
first_is k w ws p e h = (ap (λ (x : Word). x ∷ ws) (word_is w k e) ∙ h.0, h.1)

pub phase-read : (w : Word) (ws : List Word) (p : Phase) → phase_of w ws ≡ Some p → Reads (w ∷ ws) p
unfolding phase_of
phase-read w ws p h = elim (chosen (bytes_eq w (codes "send")) _ _ (Some p) h) [
  | inl a ↦ first_is (codes "send") w ws p a.0 (send-read false ws p a.1)
  | inr a ↦ elim (chosen (bytes_eq w (codes "call")) _ _ (Some p) a.1) [
    | inl b ↦ first_is (codes "call") w ws p b.0 (send-read true ws p b.1)
    | inr b ↦ elim (chosen (bytes_eq w (codes "reply")) _ _ (Some p) b.1) [
      | inl c ↦ first_is (codes "reply") w ws p c.0 (reply-read ws p c.1)
      | inr c ↦ elim (chosen (bytes_eq w (codes "receive")) _ _ (Some p) c.1) [
        | inl d ↦ first_is (codes "receive") w ws p d.0 (receive-read ws p d.1)
        | inr d ↦ elim (chosen (bytes_eq w (codes "wait")) _ _ (Some p) d.1) [
          | inl e ↦ first_is (codes "wait") w ws p e.0 (wait-read ws p e.1)
          | inr e ↦ elim (chosen (bytes_eq w (codes "create")) _ _ (Some p) e.1) [
            | inl f ↦ first_is (codes "create") w ws p f.0 (create-read ws p f.1)
            | inr f ↦ elim (chosen (bytes_eq w (codes "destroy")) _ _ (Some p) f.1) [
              | inl g ↦ first_is (codes "destroy") w ws p g.0 (destroy-read ws p g.1)
              | inr g ↦ elim (chosen (bytes_eq w (codes "end")) _ _ (Some p) g.1) [
                | inl i ↦ first_is (codes "end") w ws p i.0 (end-read ws p i.1)
                | inr i ↦ let no : None ≡ Some p = i.1 in absurd cc
              ]
            ]
          ]
        ]
      ]
    ]
  ]
]

alone-read : (a : Act) (ws : List Word) (b : Act) → alone a ws ≡ Some b → (ws ≡ []) × (a ≡ b)
alone-read a [] b h = (refl, cc)
alone-read a (w ∷ ws) b h = absurd cc

pub act-read : (ws : List Word) (a : Act) → act_of ws ≡ Some a → (ws ≡ act_words a) × FitsAct a
unfolding act_of
act-read [] a h = absurd cc
act-read (w ∷ ws) a h = elim (chosen (bytes_eq w (codes "gone")) _ _ (Some a) h) [
  | inl p ↦
      let r = alone-read act.Gone ws a p.1 in
      rw (← r.1) (rw (r.0, word_is w (codes "gone") p.0) refl, tt)
  | inr p ↦ elim (chosen (bytes_eq w (codes "pick")) _ _ (Some a) p.1) [
    | inl q ↦
        let r = alone-read act.Pick ws a q.1 in
        rw (← r.1) (rw (r.0, word_is w (codes "pick") q.0) refl, tt)
    | inr q ↦
        let m = mapped (λ p. act.Call p) (phase_of w ws) a q.1 in
        let r = phase-read w ws m.0 m.1 in
        rw (← m.2) (r.0, r.1)
  ]
]

-- WHAT A NUMBER SHOWS

abbrev pub Shows : List Word → Status → Type 0
Shows ws s = (ws ≡ status_words s) × FitsStatus s

sending-read : (ws : List Word) (s : Status) → sending_of ws ≡ Some s → Shows (codes "sending" ∷ ws) s
unfolding sending_of
sending-read [] s h = absurd cc
sending-read (t ∷ []) s h =
    let m = mapped (λ t. status.Sending t) (id_of 1 t) s h in
    let e = id-read 1 t m.0 m.1 in
    rw (← m.2) (ap (λ (x : Word). codes "sending" ∷ x ∷ []) e.0, e.1)
sending-read (t ∷ w ∷ ws) s h = absurd cc

receiving-read : (ws : List Word) (s : Status) → receiving_of ws ≡ Some s → Shows (codes "receiving" ∷ ws) s
unfolding receiving_of
receiving-read [] s h = absurd cc
receiving-read (t ∷ []) s h = elim (chosen (bytes_eq t (codes "any")) _ _ (Some s) h) [
  | inl p ↦
      let e : Some (status.Receiving None) ≡ Some s = p.1 in
      let f : status.Receiving None ≡ s = cc in
      rw (← f) (ap (λ (x : Word). codes "receiving" ∷ x ∷ []) (word_is t (codes "any") p.0), tt)
  | inr p ↦
      let m = mapped (λ f. status.Receiving (Some f)) (id_of 1 t) s p.1 in
      let e = id-read 1 t m.0 m.1 in
      rw (← m.2) (ap (λ (x : Word). codes "receiving" ∷ x ∷ []) e.0, e.1)
]
receiving-read (t ∷ w ∷ ws) s h = absurd cc

shown-read : (a : Status) (ws : List Word) (s : Status) → shown a ws ≡ Some s → (ws ≡ []) × (a ≡ s)
shown-read a [] s h = (refl, cc)
shown-read a (w ∷ ws) s h = absurd cc

show_is : (k w : Word) (ws : List Word) (s : Status) → bytes_eq w k ≡ true → Shows (k ∷ ws) s → Shows (w ∷ ws) s
show_is k w ws s e h = (ap (λ (x : Word). x ∷ ws) (word_is w k e) ∙ h.0, h.1)

plain_status : (k : Word) (a : Status) (ws : List Word) (s : Status) → k ∷ [] ≡ status_words a → FitsStatus a → shown a ws ≡ Some s → Shows (k ∷ ws) s
plain_status k a ws s e f h =
    let r = shown-read a ws s h in
    rw (← r.1) (rw r.0 e, f)

pub status-read : (ws : List Word) (s : Status) → status_of ws ≡ Some s → Shows ws s
unfolding status_of
status-read [] s h = absurd cc
status-read (w ∷ ws) s h = elim (chosen (bytes_eq w (codes "dead")) _ _ (Some s) h) [
  | inl a ↦ show_is (codes "dead") w ws s a.0 (plain_status (codes "dead") status.Dead ws s refl tt a.1)
  | inr a ↦ elim (chosen (bytes_eq w (codes "run")) _ _ (Some s) a.1) [
    | inl b ↦ show_is (codes "run") w ws s b.0 (plain_status (codes "run") status.Run ws s refl tt b.1)
    | inr b ↦ elim (chosen (bytes_eq w (codes "sending")) _ _ (Some s) b.1) [
      | inl c ↦ show_is (codes "sending") w ws s c.0 (sending-read ws s c.1)
      | inr c ↦ elim (chosen (bytes_eq w (codes "receiving")) _ _ (Some s) c.1) [
        | inl d ↦ show_is (codes "receiving") w ws s d.0 (receiving-read ws s d.1)
        | inr d ↦ elim (chosen (bytes_eq w (codes "picking")) _ _ (Some s) d.1) [
          | inl e ↦ show_is (codes "picking") w ws s e.0 (plain_status (codes "picking") status.Picking ws s refl tt e.1)
          | inr e ↦ elim (chosen (bytes_eq w (codes "ended")) _ _ (Some s) e.1) [
            | inl f ↦ show_is (codes "ended") w ws s f.0 (plain_status (codes "ended") status.Ended ws s refl tt f.1)
            | inr f ↦ let no : None ≡ Some s = f.1 in absurd cc
          ]
        ]
      ]
    ]
  ]
]

pub found-read : (ws : List Word) (f : Found) → found_of ws ≡ Some f → (ws ≡ found_words f) × FitsFound f
unfolding found_of
found-read [] f h = absurd cc
found-read (w ∷ ws) f h =
    let b = bound (λ i. option_map (λ s. record { id = i; status = s }) (status_of ws)) (id_of 0 w) f h in
    let m = mapped (λ s. record { id = b.0; status = s }) (status_of ws) f b.2 in
    let e = id-read 0 w b.0 b.1 in
    let g = status-read ws m.0 m.1 in
    rw (← m.2) (ap (λ (x : Word). x ∷ ws) e.0 ∙ ap (λ (x : List Word). id_word b.0 ∷ x) g.0, record { id = e.1; status = g.1 })

-- OUTCOMES

abbrev pub Comes : List Word → Outcome → Type 0
Comes ws o = (ws ≡ outcome_words o) × FitsOutcome o × (is_printed o ≡ true)

took-read : (ws : List Word) (o : Outcome) → took_of ws ≡ Some o → Comes (codes "took" ∷ ws) o
unfolding took_of
took-read [] o h = absurd cc
took-read (t ∷ []) o h = absurd cc
took-read (t ∷ a ∷ []) o h = absurd cc
took-read (t ∷ a ∷ b ∷ []) o h =
    let from = bound (λ f. option_map (λ m. outcome.Took f m) (message_of a b)) (id_of 1 t) o h in
    let m = mapped (λ m. outcome.Took from.0 m) (message_of a b) o from.2 in
    let e = id-read 1 t from.0 from.1 in
    let f = message-read a b m.0 m.1 in
    rw (← m.2) (ap (λ (x : Word). codes "took" ∷ x ∷ a ∷ b ∷ []) e.0 ∙ ap (λ (x : List Word). codes "took" ∷ id_word from.0 ∷ x) f.0, (e.1, f.1), refl)
took-read (t ∷ a ∷ b ∷ w ∷ ws) o h = absurd cc

made-read : (ws : List Word) (o : Outcome) → made_of ws ≡ Some o → Comes (codes "made" ∷ ws) o
unfolding made_of
made-read [] o h = absurd cc
made-read (t ∷ []) o h =
    let m = mapped (λ i. outcome.Made i) (id_of 1 t) o h in
    let e = id-read 1 t m.0 m.1 in
    rw (← m.2) (ap (λ (x : Word). codes "made" ∷ x ∷ []) e.0, e.1, refl)
made-read (t ∷ w ∷ ws) o h = absurd cc

full-read : (ws : List Word) (o : Outcome) → full_of ws ≡ Some o → Comes (codes "full" ∷ ws) o
unfolding full_of
full-read [] o h = absurd cc
full-read (a ∷ []) o h = absurd cc
full-read (a ∷ b ∷ []) o h = absurd cc
full-read (a ∷ b ∷ c ∷ []) o h = absurd cc
full-read (a ∷ b ∷ c ∷ d ∷ []) o h = elim (chosen (bytes_eq a (codes "alive") && bytes_eq c (codes "worn")) _ _ (Some o) h) [
  | inl p ↦
      let ws = and_parts _ _ p.0 in
      let x = bound (λ m. option_map (λ n. outcome.Full m n) (number_of 64 d)) (number_of 64 b) o p.1 in
      let y = mapped (λ n. outcome.Full x.0 n) (number_of 64 d) o x.2 in
      let e = number-read 64 x.0 b (omega arith) x.1 in
      let f = number-read 64 y.0 d (omega arith) y.1 in
      let a0 = word_is a (codes "alive") ws.0 in
      let c0 = word_is c (codes "worn") ws.1 in
      let e0 = e.0 in
      let f0 = f.0 in
      let same : codes "full" ∷ a ∷ b ∷ c ∷ d ∷ [] ≡ full_words x.0 y.0 = cc in
      rw (← y.2) (same, (e.1, f.1), refl)
  | inr p ↦ let no : None ≡ Some o = p.1 in absurd cc
]
full-read (a ∷ b ∷ c ∷ d ∷ w ∷ ws) o h = absurd cc

just-read : (a : Outcome) (ws : List Word) (o : Outcome) → just a ws ≡ Some o → (ws ≡ []) × (a ≡ o)
just-read a [] o h = (refl, cc)
just-read a (w ∷ ws) o h = absurd cc

come_is : (k w : Word) (ws : List Word) (o : Outcome) → bytes_eq w k ≡ true → Comes (k ∷ ws) o → Comes (w ∷ ws) o
come_is k w ws o e h = (ap (λ (x : Word). x ∷ ws) (word_is w k e) ∙ h.0, h.1, h.2)

plain_outcome : (k : Word) (a : Outcome) (ws : List Word) (o : Outcome) → k ∷ [] ≡ outcome_words a → FitsOutcome a → is_printed a ≡ true → just a ws ≡ Some o → Comes (k ∷ ws) o
plain_outcome k a ws o e f p h =
    let r = just-read a ws o h in
    rw (← r.1) (rw r.0 e, f, p)

absent-read : (ws : List Word) (o : Outcome) → option_map (λ f. outcome.Absent f) (found_of ws) ≡ Some o → Comes (codes "absent" ∷ ws) o
absent-read ws o h =
    let m = mapped (λ f. outcome.Absent f) (found_of ws) o h in
    let e = found-read ws m.0 m.1 in
    rw (← m.2) (ap (λ (x : List Word). codes "absent" ∷ x) e.0, e.1, refl)

busy-read : (ws : List Word) (o : Outcome) → option_map (λ f. outcome.Busy f) (found_of ws) ≡ Some o → Comes (codes "busy" ∷ ws) o
busy-read ws o h =
    let m = mapped (λ f. outcome.Busy f) (found_of ws) o h in
    let e = found-read ws m.0 m.1 in
    rw (← m.2) (ap (λ (x : List Word). codes "busy" ∷ x) e.0, e.1, refl)

pub outcome-read : (ws : List Word) (o : Outcome) → outcome_of ws ≡ Some o → Comes ws o
unfolding outcome_of
outcome-read [] o h = absurd cc
outcome-read (w ∷ ws) o h = elim (chosen (bytes_eq w (codes "passed")) _ _ (Some o) h) [
  | inl a ↦ come_is (codes "passed") w ws o a.0 (plain_outcome (codes "passed") outcome.Passed ws o refl tt refl a.1)
  | inr a ↦ elim (chosen (bytes_eq w (codes "waits")) _ _ (Some o) a.1) [
    | inl b ↦ come_is (codes "waits") w ws o b.0 (plain_outcome (codes "waits") outcome.Waits ws o refl tt refl b.1)
    | inr b ↦ elim (chosen (bytes_eq w (codes "took")) _ _ (Some o) b.1) [
      | inl c ↦ come_is (codes "took") w ws o c.0 (took-read ws o c.1)
      | inr c ↦ elim (chosen (bytes_eq w (codes "made")) _ _ (Some o) c.1) [
        | inl d ↦ come_is (codes "made") w ws o d.0 (made-read ws o d.1)
        | inr d ↦ elim (chosen (bytes_eq w (codes "killed")) _ _ (Some o) d.1) [
          | inl e ↦ come_is (codes "killed") w ws o e.0 (plain_outcome (codes "killed") outcome.Killed ws o refl tt refl e.1)
          | inr e ↦ elim (chosen (bytes_eq w (codes "absent")) _ _ (Some o) e.1) [
            | inl f ↦ come_is (codes "absent") w ws o f.0 (absent-read ws o f.1)
            | inr f ↦ elim (chosen (bytes_eq w (codes "busy")) _ _ (Some o) f.1) [
              | inl g ↦ come_is (codes "busy") w ws o g.0 (busy-read ws o g.1)
              | inr g ↦ elim (chosen (bytes_eq w (codes "nobody")) _ _ (Some o) g.1) [
                | inl i ↦ come_is (codes "nobody") w ws o i.0 (plain_outcome (codes "nobody") outcome.Nobody ws o refl tt refl i.1)
                | inr i ↦ elim (chosen (bytes_eq w (codes "own")) _ _ (Some o) i.1) [
                  | inl j ↦ come_is (codes "own") w ws o j.0 (plain_outcome (codes "own") outcome.Own ws o refl tt refl j.1)
                  | inr j ↦ elim (chosen (bytes_eq w (codes "full")) _ _ (Some o) j.1) [
                    | inl k ↦ come_is (codes "full") w ws o k.0 (full-read ws o k.1)
                    | inr k ↦ let no : None ≡ Some o = k.1 in absurd cc
                  ]
                ]
              ]
            ]
          ]
        ]
      ]
    ]
  ]
]

-- LINES

abbrev pub Tells : List Word → Act × Outcome → Type 0
Tells ws r = (ws ≡ act_words r.0 ++ result_words r.1) × FitsAct r.0 × FitsOutcome r.1 × FitsTogether r.0 r.1

silent_is : (a : Act) (o : Outcome) → silent_outcome a ≡ Some o → (result_words o ≡ []) × FitsOutcome o × FitsTogether a o
silent_is (act.Call (phase.Send to message zero joined)) o h = absurd cc
silent_is (act.Call (phase.Receive from zero)) o h = absurd cc
silent_is (act.Call (phase.Create program priority)) o h = absurd cc
silent_is (act.Call (phase.Destroy who)) o h = absurd cc
silent_is (act.Call (phase.Reply to message zero)) o h = absurd cc
silent_is (act.Call phase.End) o h = let e : outcome.Ended ≡ o = cc in rw (← e) (refl, tt, refl)
silent_is act.Gone o h = let e : outcome.Freed ≡ o = cc in rw (← e) (refl, tt, refl)
silent_is act.Pick o h = absurd cc

spoken_is : (a : Act) (o : Outcome) → is_some (silent_outcome a) ≡ false → is_printed o ≡ true → FitsTogether a o
spoken_is (act.Call (phase.Send to message zero joined)) o h p = p
spoken_is (act.Call (phase.Receive from zero)) o h p = p
spoken_is (act.Call (phase.Create program priority)) o h p = p
spoken_is (act.Call (phase.Destroy who)) o h p = p
spoken_is (act.Call (phase.Reply to message zero)) o h p = p
spoken_is (act.Call phase.End) o h p = absurd cc
spoken_is act.Gone o h p = absurd cc
spoken_is act.Pick o h p = p

silent-read : (ws : List Word) (r : Act × Outcome) → silent_of ws ≡ Some r → Tells ws r
unfolding silent_of
silent-read ws r h =
    let b = bound (λ a. option_map (λ o. (a, o)) (silent_outcome a)) (act_of ws) r h in
    let m = mapped (λ o. (b.0, o)) (silent_outcome b.0) r b.2 in
    let e = act-read ws b.0 b.1 in
    let s = silent_is b.0 m.0 m.1 in
    rw (← m.2) (rw s.0 (e.0 ∙ sym (append-nil (act_words b.0))), e.1, s.1, s.2)

spoken-read : (front back : List Word) (r : Act × Outcome) → spoken_of front back ≡ Some r → Tells (front ++ codes "->" ∷ back) r
unfolding spoken_of
spoken-read front back r h =
    let b = bound (λ a. cond (is_some (silent_outcome a)) None (option_map (λ o. (a, o)) (outcome_of back))) (act_of front) r h in
    let e = act-read front b.0 b.1 in
    elim (chosen (is_some (silent_outcome b.0)) _ _ (Some r) b.2) [
      | inl p ↦ let no : None ≡ Some r = p.1 in absurd cc
      | inr p ↦
          let m = mapped (λ o. (b.0, o)) (outcome_of back) r p.1 in
          let f = outcome-read back m.0 m.1 in
          rw (← m.2) (rw f.2 (ap (λ (x : List Word). x ++ codes "->" ∷ back) e.0 ∙ ap (λ (x : List Word). act_words b.0 ++ codes "->" ∷ x) f.0), e.1, f.1, spoken_is b.0 m.0 p.0 f.2)
    ]

result-read : (ws : List Word) (r : Act × Outcome) → result_of ws ≡ Some r → Tells ws r
unfolding result_of
result-read ws r h = go (position is_arrow ws) refl h
  where
    go : (o : Option ℕ) → position is_arrow ws ≡ o → result_at ws o ≡ Some r → Tells ws r
    go None e k = silent-read ws r k
    go (Some at) e k =
        let c = cut_apart is_arrow ws at [] e in
        let arrow = word_is (get_or ws at []) (codes "->") c.0 in
        let whole : ws ≡ take at ws ++ codes "->" ∷ drop (at + 1) ws = c.1 ∙ ap (λ (x : Word). take at ws ++ x ∷ drop (at + 1) ws) arrow in
        subst (λ (x : List Word). Tells x r) (sym whole) (spoken-read (take at ws) (drop (at + 1) ws) r k)

pub entry-read : (ws : List Word) (e : Entry) → entry_of ws ≡ Some e → (ws ≡ entry_words e) × FitsEntry e
unfolding entry_of
entry-read [] e h = absurd cc
entry-read (w ∷ []) e h = absurd cc
entry-read (w ∷ s ∷ ws) e h =
    let b = bound (λ w. option_and_then (λ s. option_map (λ r. told w s r.0 r.1) (result_of ws)) (number_of 4294967295 s)) (id_of 1 w) e h in
    let c = bound (λ s. option_map (λ r. told b.0 s r.0 r.1) (result_of ws)) (number_of 4294967295 s) e b.2 in
    let m = mapped (λ r. told b.0 c.0 r.0 r.1) (result_of ws) e c.2 in
    let i = id-read 1 w b.0 b.1 in
    let n = number-read 4294967295 c.0 s (omega arith) c.1 in
    let r = result-read ws m.0 m.1 in
    rw (← m.2) (ap (λ (x : Word). x ∷ s ∷ ws) i.0 ∙ ap (λ (x : Word). id_word b.0 ∷ x ∷ ws) n.0 ∙ ap (λ (x : List Word). id_word b.0 ∷ decimal c.0 ∷ x) r.0, record { who = i.1; serial = n.1; act = r.1; outcome = r.2; together = r.3 })
