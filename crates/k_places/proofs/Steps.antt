-- A step of a section in the raw world shows the board after it.
use Rattle.std.proofs.Common.{◌≡◌, ◌≢◌, ℕ, ◌+◌, ◌==◌, Bool, true, false, refl, sym, ap, ◌∙◌, subst, Option, Some, None, inl, inr}
use Rattle.std.specs.Prelude.{if◌then◌else◌}
use Rattle.std.proofs.lemmas.Bool.Decides.{eqb_tells}
use Rattle.k_ids.specs.declared.lock_word.LockWord.TheVariants.{Free}
use Rattle.k_ids.specs.declared.state_word.StateWord.{StateWord}
use Rattle.k_ids.specs.LockWords.{lock_bits}
use Rattle.k_locks.specs.declared.goods.Goods.{Goods}
use Rattle.k_locks.specs.declared.locks.Lock.{Lock}
use Rattle.k_locks.specs.declared.points.Point.{Point}
use Rattle.k_locks.specs.Asks.{Ask, Response, step_for}
use Rattle.k_locks.specs.Asks as asks
use Rattle.k_locks.specs.Hands.{Hand}
use Rattle.k_locks.specs.Locks.{Holds}
use Rattle.k_locks.specs.Places.{lock_number}
use Rattle.k_model.specs.Maps.{upd}
use Rattle.k_model.proofs.Maps.{upd_same, upd_other, upd_cases}
use Rattle.k_script.specs.Script.{Script}
use Rattle.k_script.specs.Plays.{Position}
use Rattle.k_context.specs.Contexts.{ContextSeen, Thread, Carrier}
use Rattle.k_carrier.specs.Moves.{Section}
use Rattle.k_carrier.specs.Seen.{HandSeen}
use Rattle.k_world.specs.Worlds.{Slot, Away}
use Rattle.k_board.specs.Words.{Programs, Seen, noted}
use Rattle.k_board.specs.Boards.{Board, Context, Coming}
use Rattle.k_board.specs.Steps.{Answers, owned, table_owned, wrote}
use Rattle.k_good.specs.Locks.{LocksHold, locks_at}
use Rattle.k_good.proofs.Owners.{Owns, owners_move}
use Rattle.k_places.specs.Contexts.{HoldsGoods, ShowsContext, at_in, goods_on, thread_shown}
use Rattle.k_places.specs.Memory.{Memory, Same, Home, moved_maps, slot_filled}
use Rattle.k_places.specs.Asks.{IsAskFit}
use Rattle.k_places.specs.Answers.{entry_in}
use Rattle.k_places.specs.Shows.{AreInPlace, Shows, ShowsOwners, ShowsSeen, context_in}
use Rattle.k_places.proofs.Goes.{FitsPoint, KeepsVersion, Returns}
use Rattle.k_places.proofs.Guarded.{AreHome, IsOn, free_apart, held_apart, held_same, homes_after, ranked_at}
use Rattle.k_places.proofs.Ledgers.{AreAlike, HasLast, alike_noted, last_noted, noted_shown}
use Rattle.k_places.proofs.Places.{others_held, places_held, this_held, version_held}
use Rattle.k_places.proofs.Words.{is_lock, owners_left, response_in, step_finds, words_left}

-- VERSIONS

-- a context shows the same by another word of the same version
pub shows_same : (w w' : StateWord) (j : ℕ) (o : Option ContextSeen) (x : Context) → w'.version ≡ w.version →
    ShowsContext w j o x → ShowsContext w' j o x
shows_same w w' j None x e h = h
shows_same w w' j (Some (Thread t)) x e h = record {
  number = h.number;
  coming = λ q. record { version = (h.coming q).version ∙ ap (λ n. n + 1) (sym e); doing = (h.coming q).doing };
  context =
      h.context ∙ ap (λ (n : ℕ). record {
        serial = (thread_shown w t).serial;
        own = (thread_shown w t).own;
        position = t.position;
        at = if n == t.id.version then at_in t.activity else Coming;
      }) (sym e);
}
shows_same w w' j (Some (Carrier k)) x e h = h

version_upd : (s : ℕ → Seen) (k : ℕ) (v : Seen) (f : ℕ → ℕ) → ((n : ℕ) → (s n).word.version ≡ f n) → v.word.version ≡ f k →
    (n : ℕ) → (upd s k v n).word.version ≡ f n
version_upd s k v f h e n = upd_cases (λ (u : Seen). u.word.version ≡ f n) s k v n (λ q. e ∙ ap f (sym q)) (λ ne. h n)

-- a step leaves each version, where its exchange does
pub wrote_version : (b : Board) (s : ℕ → Seen) (a : Ask) (r : Response) → AreAlike b.seen s → KeepsVersion a → Answers b a r →
    (n : ℕ) → (wrote s a r n).word.version ≡ (b.seen n).word.version
wrote_version b s (asks.Load k) r al kv an n = ap (λ (w : StateWord). w.version) (al.word n)
wrote_version b s (asks.LoadMail k) r al kv an n = ap (λ (w : StateWord). w.version) (al.word n)
wrote_version b s (asks.Acquire l) r al kv an n = ap (λ (w : StateWord). w.version) (al.word n)
wrote_version b s (asks.Release l) r al kv an n = ap (λ (w : StateWord). w.version) (al.word n)
wrote_version b s (asks.Place id program priority) r al kv an n = ap (λ (w : StateWord). w.version) (al.word n)
wrote_version b s (asks.Remove id) r al kv an n = ap (λ (w : StateWord). w.version) (al.word n)
wrote_version b s (asks.Post k message) asks.Stored al kv an n =
    version_upd s k _ (λ t. (b.seen t).word.version) (λ t. ap (λ (w : StateWord). w.version) (al.word t))
    (ap (λ (w : StateWord). w.version) (al.word k)) n
wrote_version b s (asks.Exchange k old new) asks.Won al kv an n =
    version_upd s k _ (λ t. (b.seen t).word.version) (λ t. ap (λ (w : StateWord). w.version) (al.word t))
    (kv ∙ ap (λ (w : StateWord). w.version) (sym an)) n
wrote_version b s (asks.Exchange k old new) (asks.Lost w) al kv an n = ap (λ (w : StateWord). w.version) (al.word n)
wrote_version b s a r al kv an n = absurd an

-- SERIALS

pub wrote_last : (s : ℕ → Seen) (f : ℕ → ℕ) (a : Ask) (b : Board) (r : Response) → Answers b a r → HasLast s f →
    HasLast (wrote s a r) f
wrote_last s f (asks.Load k) b r an h = h
wrote_last s f (asks.LoadMail k) b r an h = h
wrote_last s f (asks.Acquire l) b r an h = h
wrote_last s f (asks.Release l) b r an h = h
wrote_last s f (asks.Place id program priority) b r an h = h
wrote_last s f (asks.Remove id) b r an h = h
wrote_last s f (asks.Post k message) b asks.Stored an h =
    λ n. upd_cases (λ (u : Seen). u.last ≡ f n) s k _ n (λ q. h k ∙ ap f (sym q)) (λ ne. h n)
wrote_last s f (asks.Exchange k old new) b asks.Won an h =
    λ n. upd_cases (λ (u : Seen). u.last ≡ f n) s k _ n (λ q. h k ∙ ap f (sym q)) (λ ne. h n)
wrote_last s f (asks.Exchange k old new) b (asks.Lost w) an h = h
wrote_last s f a b r an h = absurd an

-- THE STEP

-- the board after a step, field by field
pub record IsStepped (g : Programs) (b b' : Board) (i : ℕ) (a : Ask) (r : Response) (at : Position) (p : Option Point)
    (contexts : ℕ → Context) (x : Context) : Type 0 where
  pub size : b'.size ≡ b.size
  pub seen : b'.seen ≡ wrote (noted g b.seen at p) a r
  pub owns : Owns b b' i a r
  pub context : b'.context ≡ upd contexts i x

-- the maps after a step
abbrev pub after_step : Script → Memory → (c i : ℕ) → Ask → Hand → ContextSeen → Option Point → Memory
after_step script m c i a h v p =
    moved_maps script m c i (Section (step_for a h)) (Some (record { context = i; value = v })) (entry_in m.serial p)

-- a step that is on no context
abbrev pub IsUsual : Ask → Type 0
IsUsual (asks.Place id program priority) = ⊥
IsUsual (asks.Remove id) = ⊥
IsUsual a = Unit {0}

module _ (script : Script) (m : Memory) (b b' : Board) (c i : ℕ) (a : Ask) (h : Hand) (goods : Goods) (k : HandSeen)
    (v : ContextSeen) (p : Option Point) (x : Context) (g : Programs) (at : Position) (sh : Shows script m b)
    (locks : LocksHold b.owner b.table b.ready b.context) (was : m.hand c ≡ Some k) (mine : k.context ≡ i)
    (fit : IsAskFit m b a) where
  abbrev R : Response
  R = response_in m a h goods

  abbrev M' : Memory
  M' = after_step script m c i a h v p

  finds : Answers b a R
  finds = step_finds m b a h goods sh.seen sh.owners fit

  seen_after : b'.seen ≡ wrote (noted g b.seen at p) a R → ShowsSeen M'.state M'.mail b'.seen
  seen_after e =
      subst (λ (s : ℕ → Seen). ShowsSeen M'.state M'.mail s) (sym e)
      (words_left m b (noted g b.seen at p) i a h goods (noted_shown g m.state m.mail b.seen at p sh.seen) fit)

  serials_after : FitsPoint p → b'.seen ≡ wrote (noted g b.seen at p) a R → HasLast b'.seen M'.serial
  serials_after f e =
      subst (λ (s : ℕ → Seen). HasLast s M'.serial) (sym e)
      (wrote_last (noted g b.seen at p) M'.serial a b R finds (last_noted g b.seen m.serial sh.serials at p f))

  owners_after : Owns b b' i a R → ShowsOwners M'.lock b'.owner b'.table b'.ready
  owners_after o =
      subst (λ (y : ℕ → Option ℕ). ShowsOwners M'.lock y b'.table b'.ready) (sym o.0)
      (subst (λ (y : Option ℕ). ShowsOwners M'.lock (owned b.owner i a R) y b'.ready) (sym o.1)
      (subst (λ (y : Option ℕ). ShowsOwners M'.lock (owned b.owner i a R) (table_owned b.table i a R) y) (sym o.2)
      (owners_left m b i a h goods sh.owners fit)))

  pub versions_after : KeepsVersion a → b'.seen ≡ wrote (noted g b.seen at p) a R → (n : ℕ) →
      (b'.seen n).word.version ≡ (b.seen n).word.version
  versions_after kv e n =
      ap (λ (s : ℕ → Seen). (s n).word.version) e ∙ wrote_version b (noted g b.seen at p) a R
      (alike_noted g b.seen at p) kv finds n

  -- what lies at home
  is_on : IsOn a
  is_on = by a fit
    where
      by : (z : Ask) → IsAskFit m b z → IsOn z
      by (asks.Acquire l) f = is_lock b.size l f
      by (asks.Release l) f = is_lock b.size l f
      by (asks.Load n) f = tt
      by (asks.LoadMail n) f = tt
      by (asks.Post n message) f = tt
      by (asks.Exchange n old new) f = tt
      by (asks.Place id program priority) f = tt
      by (asks.Remove id) f = tt

  home_after : ((l : Lock) → (Holds l (locks_at (b.context i).at) → ⊥) → goods_on b' l ≡ goods_on b l) → Returns a h b' →
      Owns b b' i a R → AreHome b.size M'.home b'
  home_after others ret o =
      homes_after script m b b' i h b.size sh.goods.homes (λ l free. others l (free_apart b locks i l free)) a goods is_on ret
      (owners_move b b' i a R finds o)

  -- the board is shown where the contexts are, each with what it has in hand
  pub stepped_shown : (contexts : ℕ → Context) → IsStepped g b b' i a R at p contexts x → FitsPoint p →
      ((l : Lock) → (Holds l (locks_at (b.context i).at) → ⊥) → goods_on b' l ≡ goods_on b l) → Returns a h b' →
      AreInPlace M'.context M'.slot M'.hand → ((j : ℕ) → ShowsContext (b'.seen j).word j (context_in M'.context M'.slot M'.hand j)
      (b'.context j)) → ((j : ℕ) (y : ContextSeen) → context_in M'.context M'.slot M'.hand j ≡ Some y →
      HoldsGoods b' y (b'.context j).at) → Shows script M' b'
  stepped_shown contexts st f others ret places shown hands = record {
    size = st.size ∙ sh.size;
    seen = seen_after st.seen;
    serials = serials_after f st.seen;
    owners = owners_after st.owns;
    places = places;
    contexts = shown;
    goods = record { homes = subst (λ n. AreHome n M'.home b') (sym st.size) (home_after others ret st.owns); hands = hands };
  }

  -- what another context has in hand stays
  pub other_hands : (j : ℕ) → j ≢ i → ((l : Lock) → (Holds l (locks_at (b.context i).at) → ⊥) → goods_on b' l ≡ goods_on b l) →
      (y : ContextSeen) → context_in m.context m.slot m.hand j ≡ Some y → HoldsGoods b' y (b.context j).at
  other_hands j ne others y q =
      sh.goods.hands j y q ∙ sym (held_same b b' (locks_at (b.context j).at) (ranked_at (b.context j).at)
      (λ l z. others l (held_apart b locks i j ne l z)))

  -- where contexts are: of a step that is on none
  abbrev K' : HandSeen
  K' = record { context = i; value = v }

  pub words_usual : IsUsual a → M'.context ≡ m.context
  words_usual u = by a u
    where
      by : (z : Ask) → IsUsual z → (after_step script m c i z h v p).context ≡ m.context
      by (asks.Acquire l) u = refl
      by (asks.Release l) u = refl
      by (asks.Load n) u = refl
      by (asks.LoadMail n) u = refl
      by (asks.Post n message) u = refl
      by (asks.Exchange n old new) u = refl
      by (asks.Place id program priority) u = absurd u
      by (asks.Remove id) u = absurd u

  pub slots_usual : IsUsual a → M'.slot ≡ m.slot
  slots_usual u = by a u
    where
      home_only : (t : Bool) (l : Lock) → slot_filled (if t then Home l Away else Same) m.slot ≡ m.slot
      home_only true l = refl
      home_only false l = refl

      by : (z : Ask) → IsUsual z → (after_step script m c i z h v p).slot ≡ m.slot
      by (asks.Acquire l) u = home_only (m.lock (lock_number l) == lock_bits Free) l
      by (asks.Release l) u = refl
      by (asks.Load n) u = refl
      by (asks.LoadMail n) u = refl
      by (asks.Post n message) u = refl
      by (asks.Exchange n old new) u = refl
      by (asks.Place id program priority) u = absurd u
      by (asks.Remove id) u = absurd u

  -- of a step that leaves the words of contexts, and their slots
  module _ (wu : M'.context ≡ m.context) (su : M'.slot ≡ m.slot) (same : version_held K' ≡ version_held k) where
    pub places_usual : AreInPlace M'.context M'.slot M'.hand
    places_usual =
        subst (λ (z : ℕ → ℕ). AreInPlace z M'.slot M'.hand) (sym wu)
        (subst (λ (z : ℕ → Slot). AreInPlace m.context z M'.hand) (sym su)
        (places_held m.context m.slot m.hand c k K' was (sym mine) sh.places same))

    context_usual : (j : ℕ) → context_in M'.context M'.slot M'.hand j ≡ context_in m.context m.slot M'.hand j
    context_usual j = λ d. context_in (wu d) (su d) M'.hand j

    pub other_usual : (j : ℕ) → j ≢ i → context_in M'.context M'.slot M'.hand j ≡ context_in m.context m.slot m.hand j
    other_usual j ne =
        context_usual j ∙ others_held m.context m.slot m.hand c k K' was (sym mine) sh.places j (λ q. ne (q ∙ mine))

    pub this_usual : context_in M'.context M'.slot M'.hand i ≡ Some v
    this_usual =
        context_usual i ∙ ap (context_in m.context m.slot M'.hand) (sym mine)
        ∙ this_held m.context m.slot m.hand c k K' was (sym mine) sh.places

    pub other_context : (j : ℕ) → j ≢ i → b'.context ≡ upd b.context i x → b'.context j ≡ b.context j
    other_context j ne e = ap (λ (y : ℕ → Context). y j) e ∙ upd_other b.context i x j ne

    pub kept_shown : IsStepped g b b' i a R at p b.context x → FitsPoint p → KeepsVersion a →
        ShowsContext (b'.seen i).word i (Some v) x → HoldsGoods b' v x.at →
        ((l : Lock) → (Holds l (locks_at (b.context i).at) → ⊥) → goods_on b' l ≡ goods_on b l) → Returns a h b' →
        Shows script M' b'
    kept_shown st f kv shown holds others ret = stepped_shown b.context st f others ret places_usual contexts hands
      where
        at_this : b'.context i ≡ x
        at_this = ap (λ (y : ℕ → Context). y i) st.context ∙ upd_same b.context i x

        contexts : (j : ℕ) → ShowsContext (b'.seen j).word j (context_in M'.context M'.slot M'.hand j) (b'.context j)
        contexts j = elim (eqb_tells j i) [
          | inl e ↦
              subst (λ (n : ℕ). ShowsContext (b'.seen n).word n (context_in M'.context M'.slot M'.hand n) (b'.context n))
              (sym e.1) (subst (ShowsContext (b'.seen i).word i (context_in M'.context M'.slot M'.hand i)) (sym at_this)
              (subst (λ (o : Option ContextSeen). ShowsContext (b'.seen i).word i o x) (sym this_usual) shown))
          | inr e ↦
              subst (ShowsContext (b'.seen j).word j (context_in M'.context M'.slot M'.hand j))
              (sym (other_context j e.1 st.context)) (subst (λ (o : Option ContextSeen).
              ShowsContext (b'.seen j).word j o (b.context j)) (sym (other_usual j e.1))
              (shows_same (b.seen j).word (b'.seen j).word j (context_in m.context m.slot m.hand j) (b.context j)
              (versions_after kv st.seen j) (sh.contexts j)))
        ]

        hands : (j : ℕ) (y : ContextSeen) → context_in M'.context M'.slot M'.hand j ≡ Some y → HoldsGoods b' y (b'.context j).at
        hands j y q = elim (eqb_tells j i) [
          | inl e ↦ mine_holds e.1
          | inr e ↦
              subst (λ (z : Context). HoldsGoods b' y z.at) (sym (other_context j e.1 st.context))
              (other_hands j e.1 others y (sym (other_usual j e.1) ∙ q))
        ]
          where
            mine_holds : j ≡ i → HoldsGoods b' y (b'.context j).at
            mine_holds e =
                subst (λ (n : ℕ). HoldsGoods b' y (b'.context n).at) (sym e)
                (subst (λ (z : Context). HoldsGoods b' y z.at) (sym at_this)
                (subst (λ (z : ContextSeen). HoldsGoods b' z x.at)
                (some_is (sym this_usual ∙ ap (context_in M'.context M'.slot M'.hand) (sym e) ∙ q)) holds))
              where
                some_is : {A : Type 0} {y z : A} → Some y ≡ Some z → y ≡ z
                some_is e = cc

  pub usual_shown : IsUsual a → version_held K' ≡ version_held k → IsStepped g b b' i a R at p b.context x → FitsPoint p →
      KeepsVersion a → ShowsContext (b'.seen i).word i (Some v) x → HoldsGoods b' v x.at →
      ((l : Lock) → (Holds l (locks_at (b.context i).at) → ⊥) → goods_on b' l ≡ goods_on b l) → Returns a h b' →
      Shows script M' b'
  usual_shown u = kept_shown (words_usual u) (slots_usual u)
