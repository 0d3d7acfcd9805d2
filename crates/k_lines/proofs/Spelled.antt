-- What the words of a line are read as is what they spell.
use Rattle.std.proofs.Common.{◌≡◌, Bool, true, cond, List, [], ◌∷◌, refl, ap, ◌∙◌, Option, Some, None, inl, inr, option_map, option_and_then, decimal}
use Rattle.std.specs.Str.{bytes_eq}
use Rattle.std.specs.Prelude.{codes}
use Rattle.k_lists.proofs.Options.{bound, chosen, mapped}
use Rattle.k_lines.specs.declared.numeral.Numeral.{Numeral}
use Rattle.k_lines.specs.declared.line.WhoWord.{WhoWord}
use Rattle.k_lines.specs.declared.line.ValueWord.{ValueWord}
use Rattle.k_lines.specs.declared.line.OperationLine.{OperationLine}
use Rattle.k_lines.specs.declared.line.OperationLine.TheVariants as operation
use Rattle.k_lines.specs.declared.line.Line.{Line}
use Rattle.k_lines.specs.declared.line.Line.TheVariants as line
use Rattle.k_lines.specs.Numbers.{numeral_of, IsNumber}
use Rattle.k_lines.specs.Lines.{Word, spelled_operation, spelled, IsProperOperation, IsProper, IsNamedOperation, IsNamed, name_of, who_of, value_of, timeout_of, one_numeral, one_name, show_line, aged_line, thread_line, at_line, event_line, end_line, sent, send_line, call_line, reply_line, receive_line, create_line, destroy_line, again_line, operation_line, line_of}
use Rattle.k_lines.proofs.Digits.{numeral-read, numeral-spelled}
use Rattle.k_lines.proofs.WordForms.{word_is, name-read, who-read, value-read, timeout-read, who-spelled, value-spelled, timeout-spelled, name-spelled}

-- The words of an operation are its spelling, if its numerals are numbers of a script.
ReadsOperation : List Word → OperationLine → Type 0
ReadsOperation ws o = IsNamedOperation o × (IsProperOperation o → ws ≡ spelled_operation o)

Reads : List Word → Line → Type 0
Reads ws l = IsNamed l × (IsProper l → ws ≡ spelled l)

-- the words of a send or a call
sent-parts : (f : WhoWord → ValueWord → ValueWord → Bool → OperationLine) (t a b : Word) (ws : List Word) (o : OperationLine) → sent f t a b ws ≡ Some o → (to : WhoWord) × (low : ValueWord) × (high : ValueWord) × (zero : Bool) × (who_of t ≡ Some to) × (value_of a ≡ Some low) × (value_of b ≡ Some high) × (timeout_of ws ≡ Some zero) × (f to low high zero ≡ o)
sent-parts f t a b ws o h =
    let to = bound (λ to. option_and_then (λ low. option_and_then (λ high. option_map (λ zero. f to low high zero) (timeout_of ws)) (value_of b)) (value_of a)) (who_of t) o h in
    let low = bound (λ low. option_and_then (λ high. option_map (λ zero. f to.0 low high zero) (timeout_of ws)) (value_of b)) (value_of a) o to.2 in
    let high = bound (λ high. option_map (λ zero. f to.0 low.0 high zero) (timeout_of ws)) (value_of b) o low.2 in
    let zero = mapped (λ zero. f to.0 low.0 high.0 zero) (timeout_of ws) o high.2 in
    (to.0, low.0, high.0, zero.0, to.1, low.1, high.1, zero.1, zero.2)

send-read : (ws : List Word) (o : OperationLine) → send_line ws ≡ Some o → ReadsOperation (codes "send" ∷ ws) o
unfolding send_line ReadsOperation
send-read [] o h = absurd cc
send-read (t ∷ []) o h = absurd cc
send-read (t ∷ a ∷ []) o h = absurd cc
send-read (t ∷ a ∷ b ∷ ws) o h =
    let s = sent-parts operation.Send t a b ws o h in
    rw (← s.8) (tt, λ p. let e = who-read t s.0 s.4 p.0 in let f = value-read a s.1 s.5 p.1 in let g = value-read b s.2 s.6 p.2 in let k = timeout-read ws s.3 s.7 in cc)

call-read : (ws : List Word) (o : OperationLine) → call_line ws ≡ Some o → ReadsOperation (codes "call" ∷ ws) o
unfolding call_line ReadsOperation
call-read [] o h = absurd cc
call-read (t ∷ []) o h = absurd cc
call-read (t ∷ a ∷ []) o h = absurd cc
call-read (t ∷ a ∷ b ∷ ws) o h =
    let s = sent-parts operation.Call t a b ws o h in
    rw (← s.8) (tt, λ p. let e = who-read t s.0 s.4 p.0 in let f = value-read a s.1 s.5 p.1 in let g = value-read b s.2 s.6 p.2 in let k = timeout-read ws s.3 s.7 in cc)

reply-read : (ws : List Word) (o : OperationLine) → reply_line ws ≡ Some o → ReadsOperation (codes "reply" ∷ ws) o
unfolding reply_line ReadsOperation
reply-read [] o h = absurd cc
reply-read (a ∷ []) o h = absurd cc
reply-read (a ∷ b ∷ ws) o h =
    let low = bound (λ low. option_and_then (λ high. option_map (λ zero. operation.Reply low high zero) (timeout_of ws)) (value_of b)) (value_of a) o h in
    let high = bound (λ high. option_map (λ zero. operation.Reply low.0 high zero) (timeout_of ws)) (value_of b) o low.2 in
    let zero = mapped (λ zero. operation.Reply low.0 high.0 zero) (timeout_of ws) o high.2 in
    rw (← zero.2) (tt, λ p. let f = value-read a low.0 low.1 p.0 in let g = value-read b high.0 high.1 p.1 in let k = timeout-read ws zero.0 zero.1 in cc)

receive-read : (ws : List Word) (o : OperationLine) → receive_line ws ≡ Some o → ReadsOperation (codes "receive" ∷ ws) o
unfolding receive_line ReadsOperation
receive-read [] o h = absurd cc
receive-read (t ∷ ws) o h =
    let from = bound (λ from. option_map (λ zero. operation.Receive from zero) (timeout_of ws)) (who_of t) o h in
    let zero = mapped (λ zero. operation.Receive from.0 zero) (timeout_of ws) o from.2 in
    rw (← zero.2) (tt, λ p. let e = who-read t from.0 from.1 p in let k = timeout-read ws zero.0 zero.1 in cc)

wait-read : (ws : List Word) (o : OperationLine) → option_map operation.Wait (timeout_of ws) ≡ Some o → ReadsOperation (codes "wait" ∷ ws) o
unfolding ReadsOperation
wait-read ws o h = let m = mapped operation.Wait (timeout_of ws) o h in rw (← m.2) (tt, λ p. let k = timeout-read ws m.0 m.1 in cc)

create-read : (ws : List Word) (o : OperationLine) → create_line ws ≡ Some o → ReadsOperation (codes "create" ∷ ws) o
unfolding create_line ReadsOperation
create-read [] o h = absurd cc
create-read (n ∷ []) o h = absurd cc
create-read (n ∷ p ∷ []) o h =
    let program = bound (λ program. option_map (λ priority. operation.Create program priority) (numeral_of p)) (name_of n) o h in
    let priority = mapped (λ priority. operation.Create program.0 priority) (numeral_of p) o program.2 in
    let e = name-read n program.0 program.1 in
    rw (← priority.2) (e.1, λ i. let a = e.0 in let f = numeral-read p priority.0 priority.1 i in cc)
create-read (n ∷ p ∷ w ∷ ws) o h = absurd cc

destroy-read : (ws : List Word) (o : OperationLine) → destroy_line ws ≡ Some o → ReadsOperation (codes "destroy" ∷ ws) o
unfolding destroy_line ReadsOperation
destroy-read [] o h = absurd cc
destroy-read (t ∷ []) o h = let m = mapped operation.Destroy (who_of t) o h in rw (← m.2) (tt, λ p. let e = who-read t m.0 m.1 p in cc)
destroy-read (t ∷ w ∷ ws) o h = absurd cc

-- a line of one number
numeral_only : (k : Word) (ws : List Word) (n : Numeral) → one_numeral ws ≡ Some n → IsNumber n → k ∷ ws ≡ k ∷ decimal n.value ∷ []
unfolding one_numeral
numeral_only k [] n h i = absurd cc
numeral_only k (w ∷ []) n h i = let e = numeral-read w n h i in cc
numeral_only k (w ∷ v ∷ ws) n h i = absurd cc

work-read : (ws : List Word) (o : OperationLine) → option_map operation.Work (one_numeral ws) ≡ Some o → ReadsOperation (codes "work" ∷ ws) o
unfolding ReadsOperation
work-read ws o h = let m = mapped operation.Work (one_numeral ws) o h in rw (← m.2) (tt, λ p. numeral_only (codes "work") ws m.0 m.1 p)

repeat-read : (ws : List Word) (o : OperationLine) → option_map operation.Repeat (one_numeral ws) ≡ Some o → ReadsOperation (codes "repeat" ∷ ws) o
unfolding ReadsOperation
repeat-read ws o h = let m = mapped operation.Repeat (one_numeral ws) o h in rw (← m.2) (tt, λ p. numeral_only (codes "repeat") ws m.0 m.1 p)

again-read : (ws : List Word) (o : OperationLine) → again_line ws ≡ Some o → ReadsOperation (codes "again" ∷ ws) o
unfolding again_line ReadsOperation
again-read [] o h = let e : operation.Again ≡ o = cc in rw (← e) (tt, λ p. refl)
again-read (w ∷ ws) o h = absurd cc

-- the first word is this one
named_so : (k w : Word) (ws : List Word) (o : OperationLine) → bytes_eq w k ≡ true → ReadsOperation (k ∷ ws) o → ReadsOperation (w ∷ ws) o
unfolding ReadsOperation
named_so k w ws o e h = (h.0, λ p. ap (λ (x : Word). x ∷ ws) (word_is w k e) ∙ h.1 p)

operation-read : (w : Word) (ws : List Word) (o : OperationLine) → operation_line w ws ≡ Some o → ReadsOperation (w ∷ ws) o
unfolding operation_line
operation-read w ws o h = elim (chosen (bytes_eq w (codes "send")) _ _ (Some o) h) [
  | inl p ↦ named_so (codes "send") w ws o p.0 (send-read ws o p.1)
  | inr p ↦ elim (chosen (bytes_eq w (codes "receive")) _ _ (Some o) p.1) [
    | inl q ↦ named_so (codes "receive") w ws o q.0 (receive-read ws o q.1)
    | inr q ↦ elim (chosen (bytes_eq w (codes "wait")) _ _ (Some o) q.1) [
      | inl r ↦ named_so (codes "wait") w ws o r.0 (wait-read ws o r.1)
      | inr r ↦ elim (chosen (bytes_eq w (codes "call")) _ _ (Some o) r.1) [
        | inl s ↦ named_so (codes "call") w ws o s.0 (call-read ws o s.1)
        | inr s ↦ elim (chosen (bytes_eq w (codes "reply")) _ _ (Some o) s.1) [
          | inl t ↦ named_so (codes "reply") w ws o t.0 (reply-read ws o t.1)
          | inr t ↦ elim (chosen (bytes_eq w (codes "create")) _ _ (Some o) t.1) [
            | inl u ↦ named_so (codes "create") w ws o u.0 (create-read ws o u.1)
            | inr u ↦ elim (chosen (bytes_eq w (codes "destroy")) _ _ (Some o) u.1) [
              | inl v ↦ named_so (codes "destroy") w ws o v.0 (destroy-read ws o v.1)
              | inr v ↦ elim (chosen (bytes_eq w (codes "work")) _ _ (Some o) v.1) [
                | inl x ↦ named_so (codes "work") w ws o x.0 (work-read ws o x.1)
                | inr x ↦ elim (chosen (bytes_eq w (codes "repeat")) _ _ (Some o) x.1) [
                  | inl y ↦ named_so (codes "repeat") w ws o y.0 (repeat-read ws o y.1)
                  | inr y ↦ elim (chosen (bytes_eq w (codes "again")) _ _ (Some o) y.1) [
                    | inl z ↦ named_so (codes "again") w ws o z.0 (again-read ws o z.1)
                    | inr z ↦ let no : None ≡ Some o = z.1 in absurd cc
                  ]
                ]
              ]
            ]
          ]
        ]
      ]
    ]
  ]
]

-- THE OTHER LINES

kernel-read : (ws : List Word) (l : Line) → option_map line.Kernel (one_numeral ws) ≡ Some l → Reads (codes "kernel" ∷ ws) l
unfolding Reads
kernel-read ws l h = let m = mapped line.Kernel (one_numeral ws) l h in rw (← m.2) (tt, λ p. numeral_only (codes "kernel") ws m.0 m.1 p)

table-read : (ws : List Word) (l : Line) → option_map line.Table (one_numeral ws) ≡ Some l → Reads (codes "table" ∷ ws) l
unfolding Reads
table-read ws l h = let m = mapped line.Table (one_numeral ws) l h in rw (← m.2) (tt, λ p. numeral_only (codes "table") ws m.0 m.1 p)

carriers-read : (ws : List Word) (l : Line) → option_map line.Carriers (one_numeral ws) ≡ Some l → Reads (codes "carriers" ∷ ws) l
unfolding Reads
carriers-read ws l h = let m = mapped line.Carriers (one_numeral ws) l h in rw (← m.2) (tt, λ p. numeral_only (codes "carriers") ws m.0 m.1 p)

show-read : (ws : List Word) (l : Line) → show_line ws ≡ Some l → Reads (codes "show" ∷ ws) l
unfolding show_line Reads
show-read [] l h = absurd cc
show-read (w ∷ []) l h = elim (chosen (bytes_eq w (codes "steps")) (Some line.ShowSteps) None (Some l) h) [
  | inl p ↦ let e : Some line.ShowSteps ≡ Some l = p.1 in let same : line.ShowSteps ≡ l = cc in rw (← same) (tt, λ q. ap (λ (x : Word). codes "show" ∷ x ∷ []) (word_is w (codes "steps") p.0))
  | inr p ↦ let no : None ≡ Some l = p.1 in absurd cc
]
show-read (w ∷ v ∷ ws) l h = absurd cc

aged-read : (ws : List Word) (l : Line) → aged_line ws ≡ Some l → Reads (codes "aged" ∷ ws) l
unfolding aged_line Reads
aged-read [] l h = absurd cc
aged-read (n ∷ []) l h = absurd cc
aged-read (n ∷ v ∷ []) l h =
    let number = bound (λ number. option_map (λ version. line.Aged number version) (numeral_of v)) (numeral_of n) l h in
    let version = mapped (λ version. line.Aged number.0 version) (numeral_of v) l number.2 in
    rw (← version.2) (tt, λ p. let e = numeral-read n number.0 number.1 p.0 in let f = numeral-read v version.0 version.1 p.1 in cc)
aged-read (n ∷ v ∷ w ∷ ws) l h = absurd cc

program-read : (ws : List Word) (l : Line) → option_map line.Program (one_name ws) ≡ Some l → Reads (codes "program" ∷ ws) l
unfolding one_name Reads
program-read [] l h = absurd cc
program-read (n ∷ []) l h =
    let m = mapped line.Program (name_of n) l h in
    let r = name-read n m.0 m.1 in
    rw (← m.2) (r.1, λ p. ap (λ (x : Word). codes "program" ∷ x ∷ []) r.0)
program-read (n ∷ w ∷ ws) l h = absurd cc

end-read : (ws : List Word) (l : Line) → end_line ws ≡ Some l → Reads (codes "end" ∷ ws) l
unfolding end_line Reads
end-read [] l h = let e : line.End ≡ l = cc in rw (← e) (tt, λ p. refl)
end-read (w ∷ ws) l h = absurd cc

thread-read : (ws : List Word) (l : Line) → thread_line ws ≡ Some l → Reads (codes "thread" ∷ ws) l
unfolding thread_line Reads
thread-read [] l h = absurd cc
thread-read (p ∷ []) l h = absurd cc
thread-read (p ∷ n ∷ []) l h =
    let priority = bound (λ priority. option_map (λ program. line.Thread priority program) (name_of n)) (numeral_of p) l h in
    let program = mapped (λ program. line.Thread priority.0 program) (name_of n) l priority.2 in
    let f = name-read n program.0 program.1 in
    rw (← program.2) (f.1, λ i. let e = numeral-read p priority.0 priority.1 i in let g = f.0 in cc)
thread-read (p ∷ n ∷ w ∷ ws) l h = absurd cc

event-read : (k w n : Word) (step number : Numeral) (l : Line) → numeral_of k ≡ Some step → numeral_of n ≡ Some number → event_line w step number ≡ Some l → Reads (codes "at" ∷ k ∷ w ∷ n ∷ []) l
unfolding Reads
event-read k w n step number l a b h = elim (chosen (bytes_eq w (codes "start")) (Some (line.Start step number)) (cond (bytes_eq w (codes "slice")) (Some (line.Slice step number)) None) (Some l) h) [
  | inl p ↦
      let e : Some (line.Start step number) ≡ Some l = p.1 in
      let same : line.Start step number ≡ l = cc in
      let word = word_is w (codes "start") p.0 in
      rw (← same) (tt, λ i. let f = numeral-read k step a i.0 in let g = numeral-read n number b i.1 in cc)
  | inr p ↦ elim (chosen (bytes_eq w (codes "slice")) (Some (line.Slice step number)) None (Some l) p.1) [
    | inl q ↦
        let e : Some (line.Slice step number) ≡ Some l = q.1 in
        let same : line.Slice step number ≡ l = cc in
        let word = word_is w (codes "slice") q.0 in
        rw (← same) (tt, λ i. let f = numeral-read k step a i.0 in let g = numeral-read n number b i.1 in cc)
    | inr q ↦ let no : None ≡ Some l = q.1 in absurd cc
  ]
]

at-read : (ws : List Word) (l : Line) → at_line ws ≡ Some l → Reads (codes "at" ∷ ws) l
unfolding at_line
at-read [] l h = absurd cc
at-read (k ∷ []) l h = absurd cc
at-read (k ∷ w ∷ []) l h = absurd cc
at-read (k ∷ w ∷ n ∷ []) l h =
    let step = bound (λ step. option_and_then (λ number. event_line w step number) (numeral_of n)) (numeral_of k) l h in
    let number = bound (λ number. event_line w step.0 number) (numeral_of n) l step.2 in
    event-read k w n step.0 number.0 l step.1 number.1 number.2
at-read (k ∷ w ∷ n ∷ v ∷ ws) l h = absurd cc

other-read : (w : Word) (ws : List Word) (l : Line) → option_map line.Operation (operation_line w ws) ≡ Some l → Reads (w ∷ ws) l
unfolding Reads ReadsOperation
other-read w ws l h =
    let m = mapped line.Operation (operation_line w ws) l h in
    let r = operation-read w ws m.0 m.1 in
    rw (← m.2) (r.0, r.1)

first_is : (k w : Word) (ws : List Word) (l : Line) → bytes_eq w k ≡ true → Reads (k ∷ ws) l → Reads (w ∷ ws) l
unfolding Reads
first_is k w ws l e h = (h.0, λ p. ap (λ (x : Word). x ∷ ws) (word_is w k e) ∙ h.1 p)

line-parts : (w : Word) (ws : List Word) (l : Line) → line_of w ws ≡ Some l → Reads (w ∷ ws) l
unfolding line_of
line-parts w ws l h = elim (chosen (bytes_eq w (codes "kernel")) _ _ (Some l) h) [
  | inl p ↦ first_is (codes "kernel") w ws l p.0 (kernel-read ws l p.1)
  | inr p ↦ elim (chosen (bytes_eq w (codes "table")) _ _ (Some l) p.1) [
    | inl q ↦ first_is (codes "table") w ws l q.0 (table-read ws l q.1)
    | inr q ↦ elim (chosen (bytes_eq w (codes "carriers")) _ _ (Some l) q.1) [
      | inl r ↦ first_is (codes "carriers") w ws l r.0 (carriers-read ws l r.1)
      | inr r ↦ elim (chosen (bytes_eq w (codes "show")) _ _ (Some l) r.1) [
        | inl s ↦ first_is (codes "show") w ws l s.0 (show-read ws l s.1)
        | inr s ↦ elim (chosen (bytes_eq w (codes "aged")) _ _ (Some l) s.1) [
          | inl t ↦ first_is (codes "aged") w ws l t.0 (aged-read ws l t.1)
          | inr t ↦ elim (chosen (bytes_eq w (codes "program")) _ _ (Some l) t.1) [
            | inl u ↦ first_is (codes "program") w ws l u.0 (program-read ws l u.1)
            | inr u ↦ elim (chosen (bytes_eq w (codes "end")) _ _ (Some l) u.1) [
              | inl v ↦ first_is (codes "end") w ws l v.0 (end-read ws l v.1)
              | inr v ↦ elim (chosen (bytes_eq w (codes "thread")) _ _ (Some l) v.1) [
                | inl x ↦ first_is (codes "thread") w ws l x.0 (thread-read ws l x.1)
                | inr x ↦ elim (chosen (bytes_eq w (codes "at")) _ _ (Some l) x.1) [
                  | inl y ↦ first_is (codes "at") w ws l y.0 (at-read ws l y.1)
                  | inr y ↦ other-read w ws l y.1
                ]
              ]
            ]
          ]
        ]
      ]
    ]
  ]
]

pub line-named : (w : Word) (ws : List Word) (l : Line) → line_of w ws ≡ Some l → IsNamed l
unfolding Reads
line-named w ws l h = (line-parts w ws l h).0

pub line-read : (w : Word) (ws : List Word) (l : Line) → line_of w ws ≡ Some l → IsProper l → w ∷ ws ≡ spelled l
unfolding Reads
line-read w ws l h p = (line-parts w ws l h).1 p

-- WHAT IS SPELLED IS READ

abbrev pub line_from : List Word → Option Line
line_from [] = None
line_from (w ∷ ws) = line_of w ws

operation-spelled : (o : OperationLine) → IsNamedOperation o → IsProperOperation o → line_from (spelled_operation o) ≡ Some (line.Operation o)
unfolding line_of operation_line send_line call_line reply_line receive_line create_line destroy_line again_line one_numeral
operation-spelled (operation.Send to low high zero) n p = rw (who-spelled to p.0) (rw (value-spelled low p.1) (rw (value-spelled high p.2) (rw (timeout-spelled zero) refl)))
operation-spelled (operation.Receive from zero) n p = rw (who-spelled from p) (rw (timeout-spelled zero) refl)
operation-spelled (operation.Wait zero) n p = rw (timeout-spelled zero) refl
operation-spelled (operation.Call to low high zero) n p = rw (who-spelled to p.0) (rw (value-spelled low p.1) (rw (value-spelled high p.2) (rw (timeout-spelled zero) refl)))
operation-spelled (operation.Reply low high zero) n p = rw (value-spelled low p.0) (rw (value-spelled high p.1) (rw (timeout-spelled zero) refl))
operation-spelled (operation.Create program priority) n p = rw (name-spelled program n) (rw (numeral-spelled priority p) refl)
operation-spelled (operation.Destroy victim) n p = rw (who-spelled victim p) refl
operation-spelled (operation.Work count) n p = rw (numeral-spelled count p) refl
operation-spelled (operation.Repeat count) n p = rw (numeral-spelled count p) refl
operation-spelled operation.Again n p = refl

pub line-spelled : (l : Line) → IsNamed l → IsProper l → line_from (spelled l) ≡ Some l
unfolding line_of show_line aged_line end_line thread_line at_line one_numeral one_name
line-spelled (line.Kernel version) n p = rw (numeral-spelled version p) refl
line-spelled (line.Table size) n p = rw (numeral-spelled size p) refl
line-spelled (line.Carriers count) n p = rw (numeral-spelled count p) refl
line-spelled line.ShowSteps n p = refl
line-spelled (line.Aged number version) n p = rw (numeral-spelled number p.0) (rw (numeral-spelled version p.1) refl)
line-spelled (line.Program name) n p = rw (name-spelled name n) refl
line-spelled line.End n p = refl
line-spelled (line.Thread priority program) n p = rw (numeral-spelled priority p) (rw (name-spelled program n) refl)
line-spelled (line.Start step number) n p = rw (numeral-spelled step p.0) (rw (numeral-spelled number p.1) refl)
line-spelled (line.Slice step carrier) n p = rw (numeral-spelled step p.0) (rw (numeral-spelled carrier p.1) refl)
line-spelled (line.Operation o) n p = operation-spelled o n p

pub line-spelled_words : (w : Word) (ws : List Word) (l : Line) → w ∷ ws ≡ spelled l → IsNamed l → IsProper l → line_of w ws ≡ Some l
line-spelled_words w ws l e n p = ap line_from e ∙ line-spelled l n p
