-- When it is certain that an input is too large.
use Rattle.std.proofs.Common.{◌≡◌, ℕ, ◌+◌, ◌-◌, ◌<◌, ◌≤◌, ◌⊎◌, true, false, List, [], ◌∷◌, ◌++◌, length, take, drop, Option, Some, None, refl, sym, ap, ◌∙◌, subst, arith, length-append, inl, inr}
use Rattle.std.specs.Option.{IfSome}
use Rattle.std.proofs.lemmas.Bool.{cases_lt, lt-ltb, le-ltb}
use Rattle.std.proofs.lemmas.List.{append-nil, length-take-le, take-append-le}
use Rattle.std.proofs.Math.Seq.{take-append_seam, take-append-add}
use Rattle.k_outside.specs.Outside.{Came}
use Rattle.k_input.specs.declared.divider.Begun.{Begun}
use Rattle.k_input.specs.declared.divider.Begun.TheVariants as begun
use Rattle.k_input.specs.declared.divider.Divider.{Divider}
use Rattle.k_input.specs.Taken.{IsTaken}
use Rattle.k_input.specs.Division.{script_part, IsInputLarge, IsSurelyLarge, IsInputTooLarge}
use Rattle.k_input.specs.Counting.{fed, fed_all, is_large}
use Rattle.k_input.proofs.Takes.{taken_more}
use Rattle.k_input.proofs.Dividing.{Divides, IsWhole, still, all_divides}

pub counts_small : (d : Divider) → is_large d ≡ false → (d.script ≤ 1048576) × (d.len ≤ 135266304)
counts_small d e = elim (cases_lt 1048576 d.script) [
  | inl l ↦ let no : is_large d ≡ true = rw (lt-ltb _ _ l) refl in absurd cc
  | inr s ↦ elim (cases_lt 135266304 d.len) [
    | inl l ↦ let no : is_large d ≡ true = rw (le-ltb _ _ s, lt-ltb _ _ l) refl in absurd cc
    | inr n ↦ (s, n)
  ]
]

pub counts_large : (d : Divider) → is_large d ≡ true → (1048576 < d.script) ⊎ (135266304 < d.len)
counts_large d e = elim (cases_lt 1048576 d.script) [
  | inl l ↦ inl l
  | inr s ↦ elim (cases_lt 135266304 d.len) [
    | inl l ↦ inr l
    | inr n ↦ let no : is_large d ≡ false = rw (le-ltb _ _ s, le-ltb _ _ n) refl in absurd cc
  ]
]

pub small_counts : (d : Divider) → d.script ≤ 1048576 → d.len ≤ 135266304 → is_large d ≡ false
small_counts d s n = rw (le-ltb _ _ s, le-ltb _ _ n) refl

-- bytes behind which the script is at its end
abbrev closing : Begun → List ℕ
closing begun.Nothing = 45 ∷ 45 ∷ []
closing begun.Dash = 45 ∷ []
closing begun.Dashes = []
closing begun.Script = []
closing begun.History = []

closes : (g : Begun) → still g (closing g) ≡ []
closes begun.Nothing = refl
closes begun.Dash = refl
closes begun.Dashes = refl
closes begun.Script = refl
closes begun.History = refl

closing_len : (g : Begun) (bytes front : List ℕ) → IsWhole g bytes front → length front ≤ 1048576 → length bytes ≤ 135266304 → length (bytes ++ closing g) ≤ 135266304
closing_len begun.Nothing bytes front h s n = omega (arith, ap length h, ap length (append-nil front), length-append bytes (45 ∷ 45 ∷ []))
closing_len begun.Dash bytes front h s n = omega (arith, ap length h, length-append front (45 ∷ []), length-append bytes (45 ∷ []))
closing_len begun.Dashes bytes front h s n = omega (arith, n, ap length (append-nil bytes))
closing_len begun.Script bytes front h s n = omega (arith, n, ap length (append-nil bytes))
closing_len begun.History bytes front h s n = omega (arith, n, ap length (append-nil bytes))

front_len : (g : Begun) (bytes front : List ℕ) → IsWhole g bytes front → length front ≤ length bytes
front_len begun.Nothing bytes front h = omega (arith, ap length h, ap length (append-nil front))
front_len begun.Dash bytes front h = omega (arith, ap length h, length-append front (45 ∷ []))
front_len begun.Dashes bytes front h = omega (arith, ap length h, length-append front (45 ∷ 45 ∷ []))
front_len begun.Script bytes front h = omega (arith, ap length h, ap length (append-nil front))
front_len begun.History bytes front h = h

pub script_within : (bytes : List ℕ) (d : Divider) → Divides bytes d → d.script ≤ d.len
script_within bytes d h = omega (arith, h.script, h.len, front_len d.begun bytes h.front h.whole)

pub not_surely : (bytes : List ℕ) (d : Divider) → Divides bytes d → is_large d ≡ false → ¬ IsSurelyLarge bytes
not_surely bytes d h e s =
    let counts = counts_small d e in
    let script : length (script_part (bytes ++ closing d.begun)) ≡ d.script = ap length (h.rest (closing d.begun) ∙ ap (λ (xs : List ℕ). h.front ++ xs) (closes d.begun) ∙ append-nil h.front) ∙ sym h.script in
    let whole : length (bytes ++ closing d.begun) ≤ 135266304 = closing_len d.begun bytes h.front h.whole (omega (arith, h.script, counts.0)) (omega (arith, h.len, counts.1)) in
    elim (s (closing d.begun)) [ inl l ↦ omega (arith, script, counts.0) | inr l ↦ omega (arith, whole) ]

pub surely : (bytes : List ℕ) (d : Divider) → Divides bytes d → is_large d ≡ true → IsSurelyLarge bytes
surely bytes d h e = λ more. elim (counts_large d e) [
  | inl l ↦ inl (omega (arith, l, h.script, ap length (h.rest more), length-append h.front (still d.begun more)))
  | inr l ↦ inr (omega (arith, l, h.len, length-append bytes more))
]

history_keeps : (d : Divider) (more : List ℕ) → d.begun ≡ begun.History → (fed_all d more).script ≡ d.script
history_keeps d [] e = refl
history_keeps d (b ∷ more) e =
    let one : fed d b ≡ record { begun = begun.History; script = d.script + 0; len = d.len + 1 } = rw e refl in
    history_keeps (fed d b) more (ap (λ (x : Divider). x.begun) one) ∙ ap (λ (x : Divider). x.script) one ∙ omega arith

-- What stood before the last byte of what has come.
start_of : (bytes more start : List ℕ) (b : ℕ) → bytes ++ more ≡ start ++ b ∷ [] → 0 < length more → start ≡ bytes ++ take (length more - 1) more
start_of bytes more start b e s =
    let count : length start ≡ length bytes + (length more - 1) = omega (arith, ap length e, length-append bytes more, length-append start (b ∷ [])) in
    sym (take-append_seam start (b ∷ [])) ∙ ap (take (length start)) (sym e) ∙ ap (λ (n : ℕ). take n (bytes ++ more)) count ∙ take-append-add bytes more (length more - 1)

-- what may have been asked of the source
abbrev pub IsRoom : Divider → ℕ → Type 0
IsRoom d room = ((d.begun ≡ begun.History) × (d.len + room ≤ 135266305)) ⊎ (d.len + room ≤ 1048577) ⊎ (room ≡ 1)

init_small : (bytes init : List ℕ) (d : Divider) (room : ℕ) → Divides bytes d → is_large d ≡ false → IsRoom d room → length init + 1 ≤ room → ¬ IsSurelyLarge (bytes ++ init)
init_small bytes init d room h e (inl x) n =
    let counts = counts_small d e in
    let begins : Divides (bytes ++ init) (fed_all d init) = all_divides bytes d init h in
    not_surely _ _ begins (small_counts (fed_all d init) (omega (arith, history_keeps d init x.0, counts.0)) (omega (arith, begins.len, h.len, length-append bytes init, x.1, n)))
init_small bytes init d room h e (inr (inl x)) n =
    let begins : Divides (bytes ++ init) (fed_all d init) = all_divides bytes d init h in
    let within : (fed_all d init).script ≤ (fed_all d init).len = script_within _ _ begins in
    not_surely _ _ begins (small_counts (fed_all d init) (omega (arith, begins.len, h.len, length-append bytes init, within, x, n)) (omega (arith, begins.len, h.len, length-append bytes init, x, n)))
init_small bytes [] d room h e (inr (inr x)) n = subst (λ (xs : List ℕ). ¬ IsSurelyLarge xs) (sym (append-nil bytes)) (not_surely bytes d h e)
init_small bytes (b ∷ init) d room h e (inr (inr x)) n = absurd (omega arith)

pub not_before : (bytes more : List ℕ) (d : Divider) (room : ℕ) → Divides bytes d → is_large d ≡ false → IsRoom d room → 0 < length more → length more ≤ room
    → (start : List ℕ) (b : ℕ) → bytes ++ more ≡ start ++ b ∷ [] → ¬ IsSurelyLarge start
not_before bytes more d room h e r s n start b same =
    let short : length (take (length more - 1) more) ≡ length more - 1 = length-take-le (length more - 1) more (omega arith) in
    subst (λ (xs : List ℕ). ¬ IsSurelyLarge xs) (sym (start_of bytes more start b same s)) (init_small bytes (take (length more - 1) more) d room h e r (omega (arith, short, s, n)))

-- THE STATUSES

-- Where no byte came, all were taken.
pub came_to_end : (before mid after : Option (List ℕ)) (bytes buffer : List ℕ) (count : ℕ) → count ≡ 0 → IsTaken before mid bytes → IfSome mid (λ left. Came left buffer after count)
    → IfSome before (λ given. (given ≡ bytes) × (after ≡ Some []))
came_to_end None mid after bytes buffer count z h t = tt
came_to_end (Some given) mid after bytes buffer count z h t =
    let came : Came h.0 buffer after count = subst (λ (o : Option (List ℕ)). IfSome o (λ left. Came left buffer after count)) h.1 t in
    let none : h.0 ≡ [] = came.finished z in
    (h.2 ∙ ap (λ (xs : List ℕ). bytes ++ xs) none ∙ append-nil bytes, came.rest ∙ ap (λ (n : ℕ). Some (drop n h.0)) z ∙ ap Some none)

pub ends_large : (before after : Option (List ℕ)) (bytes : List ℕ) (d : Divider) → IfSome before (λ given. (given ≡ bytes) × (after ≡ Some [])) → Divides bytes d → is_large d ≡ false
    → 1048576 < length (script_part bytes) → IsInputTooLarge before after
ends_large None after bytes d a h e l = tt
ends_large (Some given) after bytes d a h e l = record {
  front = given;
  rest = [];
  taken = sym (append-nil given);
  left = a.1;
  large = inl (rw a.0 l);
  stops = inl (refl, subst (λ (xs : List ℕ). ¬ IsSurelyLarge xs) (sym a.0) (not_surely bytes d h e));
}

pub stops_large : (before after : Option (List ℕ)) (bytes : List ℕ) (d : Divider) → IsTaken before after bytes → Divides bytes d → is_large d ≡ true
    → ((start : List ℕ) (b : ℕ) → bytes ≡ start ++ b ∷ [] → ¬ IsSurelyLarge start) → IsInputTooLarge before after
stops_large None after bytes d t h e n = tt
stops_large (Some given) after bytes d t h e n = record {
  front = bytes;
  rest = t.0;
  taken = t.2;
  left = t.1;
  large = subst IsInputLarge (sym t.2) (surely bytes d h e t.0);
  stops = inr (surely bytes d h e, n);
}

pub room_len : (d : Divider) (room count : ℕ) → is_large d ≡ false → IsRoom d room → count ≤ room → d.len + count ≤ 135266305
room_len d room count e (inl x) n = omega (arith, x.1)
room_len d room count e (inr (inl x)) n = omega (arith, x)
room_len d room count e (inr (inr x)) n = omega (arith, (counts_small d e).1, x)

-- One take more: what the reader knows of what has come.
pub record Came_more (before after : Option (List ℕ)) (new : List ℕ) (d d' : Divider) : Type 0 where
  pub taken : IsTaken before after new
  pub divides : Divides new d'
  pub just : (start : List ℕ) (b : ℕ) → new ≡ start ++ b ∷ [] → ¬ IsSurelyLarge start
  pub within : d'.len ≤ 135266305
  pub more : d.len < d'.len

pub came_more : (before mid after : Option (List ℕ)) (bytes into behind new : List ℕ) (d d' : Divider) (count room : ℕ)
    → count ≤ length into → new ≡ bytes ++ take count (into ++ behind) → d' ≡ fed_all d (take count (into ++ behind))
    → IsTaken before mid bytes → Divides bytes d → is_large d ≡ false → IsRoom d room → 0 < count → count ≤ room
    → IfSome mid (λ left. Came left into after count) → Came_more before after new d d'
came_more before mid after bytes into behind new d d' count room i n f t h e r s c came =
    let chunk : take count (into ++ behind) ≡ take count into = take-append-le count into behind i in
    let new_is : new ≡ bytes ++ take count into = n ∙ ap (λ (xs : List ℕ). bytes ++ xs) chunk in
    let fed_is : d' ≡ fed_all d (take count into) = f ∙ ap (fed_all d) chunk in
    let long : length (take count into) ≡ count = length-take-le count into i in
    let divides : Divides new d' = subst (λ (xs : List ℕ). Divides xs d') (sym new_is) (subst (λ (x : Divider). Divides (bytes ++ take count into) x) (sym fed_is) (all_divides bytes d (take count into) h)) in
    let len : d'.len ≡ d.len + count = omega (arith, divides.len, h.len, ap length new_is, length-append bytes (take count into), long) in
    record {
      taken = subst (λ (xs : List ℕ). IsTaken before after xs) (sym new_is) (taken_more before mid after bytes into count t came);
      divides = divides;
      just = λ start b same. not_before bytes (take count into) d room h e r (omega (arith, long, s)) (omega (arith, long, c)) start b (sym new_is ∙ same);
      within = omega (arith, len, room_len d room count e r c);
      more = omega (arith, len, s);
    }
