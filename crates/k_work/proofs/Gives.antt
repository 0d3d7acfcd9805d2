-- A carrier that gives what it has in hand comes nearer.
use Rattle.std.proofs.Common.{◌≡◌, ℕ, ◌+◌, ◌-◌, ◌*◌, ◌<◌, ◌≤◌, Bool, true, false, not, refl, sym, ap, ◌∙◌}
use Rattle.std.proofs.Common.{subst}
use Rattle.std.proofs.Common.{arith, Option, Some, None}
use Rattle.std.specs.Prelude.{◌&&◌, ◌||◌, is_some, if◌then◌else◌}
use Rattle.std.proofs.lemmas.Bool.{false≢true}
use Rattle.std.proofs.lemmas.Bool.Decides.{nat_tests}
use Rattle.k_locks.specs.declared.locks.Lock.{Lock}
use Rattle.k_locks.specs.declared.locks.Lock.TheVariants as lock
use Rattle.k_tokens.specs.World.{Carrier, ContextName, Help, OfCarrier, OfThread, Threads, World}
use Rattle.k_tokens.specs.World.{holds, names, owner_of}
use Rattle.k_switching.specs.Rules.{gives, has_switched}
use Rattle.k_switching.specs.Rules.{help_after, is_helped, is_in_the_way, is_interrupted, is_nobodys, is_own}
use Rattle.k_switching.specs.Rules.{is_released}
use Rattle.k_switching.specs.Rules.{is_stopped, is_strange, put_down, same_context}
use Rattle.k_work.specs.Near.{finished_worth, hand_place, is_wanted_by, level_of, looked_place, near_hand}
use Rattle.k_work.specs.Near.{near_of}
use Rattle.k_work.specs.Near.{rank_by, rank_of}

-- WHERE THREADS AND OWN CONTEXTS ARE THE SAME

holds_same : (w v : World) → v.threads ≡ w.threads → v.own ≡ w.own → (x : ContextName) (l : Option Lock) →
    holds v x l ≡ holds w x l
holds_same w v threads own (OfThread t) None = λ z. holds (record w { threads = threads z }) (OfThread t) None
holds_same w v threads own (OfThread t) (Some lock.Table) = ap (λ (x : Threads). (x.locks t).table) threads
holds_same w v threads own (OfThread t) (Some (lock.Thread n)) =
    λ z. holds (record w { threads = threads z }) (OfThread t) (Some (lock.Thread n))
holds_same w v threads own (OfThread t) (Some lock.Ready) = ap (λ (x : Threads). (x.locks t).ready) threads
holds_same w v threads own (OfCarrier d) None = λ z. holds (record w { own = own z }) (OfCarrier d) None
holds_same w v threads own (OfCarrier d) (Some lock.Table) = refl
holds_same w v threads own (OfCarrier d) (Some (lock.Thread n)) = refl
holds_same w v threads own (OfCarrier d) (Some lock.Ready) = λ z. holds (record w {
  own =
      own z;
}) (OfCarrier d) (Some lock.Ready)

pub level_same : (w v : World) → v.threads ≡ w.threads → v.own ≡ w.own → (h : Option Help) →
    level_of v h ≡ level_of w h
level_same w v threads own None = refl
level_same w v threads own (Some h) =
    λ z. if holds_same w v threads own h.context h.lock z
    then 3 - rank_by (holds_same w v threads own h.context (Some lock.Table) z) h.lock else 5

pub level_most : (w : World) (h : Option Help) → level_of w h ≤ 5
level_most w None = omega arith
level_most w (Some h) = go (holds w h.context h.lock) (rank_of w h)
  where
    go : (t : Bool) (r : ℕ) → (if t then 3 - r else 5) ≤ 5
    go true r = omega arith
    go false r = omega arith

-- THE RULES BY WHICH IT GIVES

-- the same context by its name
pub same_is : (x y : ContextName) → same_context x y ≡ true → x ≡ y
same_is (OfThread t) (OfThread u) e = let same : t ≡ u = grind (arith, nat_tests, e) in
    ap (λ (n : ℕ). OfThread n) same
same_is (OfCarrier c) (OfCarrier d) e = let same : c ≡ d = grind (arith, nat_tests, e) in
    ap (λ (n : ℕ). OfCarrier n) same
same_is (OfThread t) (OfCarrier d) e = absurd (false≢true e)
same_is (OfCarrier c) (OfThread u) e = absurd (false≢true e)

and_parts : (a c : Bool) → (a && c) ≡ true → (a ≡ true) × (c ≡ true)
and_parts true true e = (refl, refl)
and_parts true false e = absurd (false≢true e)
and_parts false c e = absurd (false≢true e)

-- a help that has released is the farthest
released_level : (w : World) (h : Option Help) (x : ContextName) → is_released w h x ≡ true → level_of w h ≡ 5
released_level w None x e = absurd (false≢true e)
released_level w (Some h) x e =
    let p = and_parts (same_context h.context x) (not (holds w x h.lock)) e in
    let same = same_is h.context x p.0 in
    let not_held : holds w h.context h.lock ≡ false =
    ap (λ (y : ContextName). holds w y h.lock) same ∙ not_true (holds w x h.lock) p.1 in
    rw not_held refl
  where
    not_true : (t : Bool) → not t ≡ true → t ≡ false
    not_true false e = refl
    not_true true e = absurd (false≢true e)

-- a help that has released is dropped, and any other stays
after_less : (w : World) (h : Option Help) (x : ContextName) (t : Bool) → is_released w h x ≡ t →
    level_of w (if t then None else h) + (if t then 1 else 0) ≤ level_of w h
after_less w h x true e = let l = released_level w h x e in omega (arith, l)
after_less w h x false e = omega arith

-- Where nothing else makes it give, what it has in hand isn't what it wants.
unwanted : (w : World) (c : ℕ) (k : Carrier) (x : ContextName) →
    (k.putting || (is_in_the_way k x || is_nobodys w k x)) ≡ true → hand_place w c k x ≡ 4
unwanted w c k x why = go k.putting k.help why
  where
    by_help : (t s : Bool) → ((true && not t) || (s && not t)) ≡ true → ◌≡◌ {A = ℕ} (if t then 0 else 4) 4
    by_help false s e = refl
    by_help true true e = absurd (false≢true e)
    by_help true false e = absurd (false≢true e)

    by_goal : (s t : Bool) → ((false && true) || (not t && true)) ≡ true →
        ◌≡◌ {A = ℕ} (if (if s then false else t) then 0 else 4) 4
    by_goal true t e = refl
    by_goal false false e = refl
    by_goal false true e = absurd (false≢true e)

    by_context : (x : ContextName) → ((false && true) || (is_strange w k x && true)) ≡ true →
        ◌≡◌ {A = ℕ} (if is_wanted_by w c k None x then 0 else 4) 4
    by_context (OfThread t) e = by_goal k.switching (names k.goal (owner_of w.threads t)) e
    by_context (OfCarrier d) e = absurd (false≢true e)

    go : (p : Bool) (h : Option Help) →
        (p || ((is_some h && not (is_helped h x)) || (is_strange w k x && not (is_helped h x)))) ≡ true →
        ◌≡◌ {A = ℕ} (if p then 4 else (if is_wanted_by w c k h x then 0 else 4)) 4
    go true h e = refl
    go false (Some help) e = by_help (same_context help.context x) (is_strange w k x) e
    go false None e = by_context x e

picked : (p s r a n q : Bool) → s ≡ false → r ≡ false → q ≡ false →
    (p || (s || (r || (a || (n || q))))) ≡ true →
    (p || (a || n)) ≡ true
picked true s r a n q e f g h = refl
picked false s r true n q e f g h = refl
picked false s r false true q e f g h = refl
picked false false false false false false e f g h = absurd (false≢true h)
picked false true r false false q e f g h = absurd (false≢true (sym e))
picked false false true false false q e f g h = absurd (false≢true (sym f))
picked false false false false false true e f g h = absurd (false≢true (sym g))

stays_quiet : (a n : Bool) → a ≡ false → (a && n) ≡ false
stays_quiet false n e = refl
stays_quiet true n e = absurd (false≢true (sym e))

-- after a give it begins to switch, or is to look
nearer : (stopped lacks : Bool) (f l l' p : ℕ) → (stopped ≡ false → 5 * l' + 2 < 5 * l + p) →
    (if stopped || lacks then 31 else f + 5 * l' + 2) <
    (if stopped then 32 else f + (if lacks then 40 else 0) + 5 * l + p)
nearer true lacks f l l' p less = omega arith
nearer false true f l l' p less = omega arith
nearer false false f l l' p less = let m = less refl in omega (arith, m)

-- A give that doesn't end a switch.
pub give_nearer : (w v : World) (c : ℕ) (x : ContextName) → (w.carrier c).hand ≡ Some x →
    (w.carrier c).looked ≡ None →
    gives w c (w.carrier c) x ≡ true → has_switched w c x ≡ false → v.threads ≡ w.threads → v.own ≡ w.own →
    v.carrier c ≡ put_down w (w.carrier c) x → near_of v c < near_of w c
give_nearer w v c x hand looked out unfinished threads own is =
    let now : near_of v c ≡ near_hand v c (put_down w (w.carrier c) x) (w.own c).stage None =
    λ z. near_hand v c (is z) (own z c).stage (is z).hand in
    let before : near_of w c ≡ near_hand w c (w.carrier c) (w.own c).stage (Some x) =
    ap (near_hand w c (w.carrier c) (w.own c).stage) hand in
    let there = ap (looked_place v c (put_down w (w.carrier c) x)) looked in
    let level = level_same w v threads own (help_after w (w.carrier c).help x) in
    let less = nearer (is_interrupted (w.carrier c)) (not (w.carrier c).switching && not
    (is_some (w.carrier c).goal))
    (finished_worth (w.own c).stage) (level_of w (w.carrier c).help) (level_of w (help_after w
    (w.carrier c).help x))
    (hand_place w c (w.carrier c) x) (falls (is_released w (w.carrier c).help x) refl) in
    together now before (subst (λ (n : ℕ). n < near_hand w c (w.carrier c) (w.own c).stage (Some x))
    (sym (shape level there)) less)
  where
    falls : (r : Bool) → is_released w (w.carrier c).help x ≡ r → is_interrupted (w.carrier c) ≡ false →
        5 * level_of w (help_after w (w.carrier c).help x) + 2 < 5 * level_of w (w.carrier c).help +
        hand_place w c (w.carrier c) x
    falls true r quiet =
        let a = after_less w (w.carrier c).help x true r in
        let e = ap (λ (t : Bool). level_of w (if t then None else (w.carrier c).help)) r in
        omega (arith, a, e)
    falls false r quiet =
        let a = after_less w (w.carrier c).help x false r in
        let e = ap (λ (t : Bool). level_of w (if t then None else (w.carrier c).help)) r in
        let p = unwanted w c (w.carrier c) x (picked (w.carrier c).putting (has_switched w c x)
        (is_released w (w.carrier c).help x) (is_in_the_way (w.carrier c) x) (is_nobodys w (w.carrier c) x)
        (is_stopped c (w.carrier c) x) unfinished r
        (stays_quiet (is_interrupted (w.carrier c)) (not (is_own c x)) quiet) out) in
        omega (arith, a, e, p)

    shape : level_of v (help_after w (w.carrier c).help x) ≡ level_of w (help_after w (w.carrier c).help x) →
        looked_place v c (put_down w (w.carrier c) x) (w.carrier c).looked ≡ 2 →
        near_hand v c (put_down w (w.carrier c) x) (w.own c).stage None ≡
        (if is_interrupted (w.carrier c) || (not (w.carrier c).switching && not
        (is_some (w.carrier c).goal)) then 31
        else finished_worth (w.own c).stage + 5 * level_of w (help_after w (w.carrier c).help x) + 2)
    shape level there =
        λ z. if is_interrupted (w.carrier c) || (not (w.carrier c).switching && not
        (is_some (w.carrier c).goal)) then 31
        else finished_worth (w.own c).stage + 5 * level z + there z

    together : {n m : ℕ} → near_of v c ≡ n → near_of w c ≡ m → n < m → near_of v c < near_of w c
    together a e l = omega (arith, a, e, l)
