-- All that is said of a call follows from the whole of it; and it is still so where what was held back is sent on.
use Rattle.std.proofs.Common.{◌≡◌, ◌≤◌, ℕ, List, [], Option, Result, Ok, Err, refl, sym, ◌∙◌, inl, inr, arith, subst}
use Rattle.std.specs.Prelude.{IfErr, IfOk}
use Rattle.std.proofs.lemmas.List.{append-nil}
use Rattle.k_outside.specs.Outside.{Appends, AppendsFront, Rose}
use Rattle.k_outside.proofs.Texts.{appends_more}
use Rattle.fiasco_run.specs.declared.call.Call.{Call}
use Rattle.fiasco_run.specs.declared.exit.Exit.{Exit}
use Rattle.fiasco_run.specs.declared.exit.Exit.TheVariants as exit
use Rattle.fiasco_run.specs.declared.due.Due.{Due}
use Rattle.fiasco_run.specs.Due.{exit_of}
use Rattle.fiasco_run.specs.Served.{IsCalm, IsPut, IsPutAlone, IsPutText, IsServed, SinkUse, SourceUse}
use Rattle.fiasco_run.specs.Headline.{IsAnswered, IsAnsweredOrShort}
use Rattle.fiasco_run.specs.Calls.{call_of}
use Rattle.fiasco_run.proofs.Exact.{big_done, check_done, exact, run_done}

-- What is done has no fault of the source,
calm_source : (d : Due) (e : Exit) (a b : ℕ) → e ≡ exit_of d → e ≡ exit.Done → IsCalm d a b → b ≡ a
calm_source d e a b same done (inl fault) = let no : exit.Done ≡ exit.ReadFault = sym done ∙ same ∙ fault in absurd cc
calm_source d e a b same done (inr calm) = calm

-- and none of the sink.
pub no_faults : (d : Due) (e : Exit) (held holds : Option (List ℕ)) (a b before now : ℕ) → IsPut e d held holds before now → IsCalm d a b → e ≡ exit.Done → (b ≡ a) × (now ≡ before)
no_faults d e held holds a b before now (inl p) calm done = (calm_source d e a b p.0 done calm, p.2)
no_faults d e held holds a b before now (inr p) calm done = let no : exit.Done ≡ exit.WriteFault = sym done ∙ p.0 in absurd cc

pub answered_of : (asked : Option Call) (e : Exit) (u : SourceUse) (v : SinkUse) → IsServed asked e u v → IsAnswered asked e u v
answered_of asked e u v h = record {
  run = run_done asked h.what e u.given v.held v.holds u.before u.now v.before v.now h.cause h.put;
  check = check_done asked h.what e u.given v.held v.holds u.before u.now v.before v.now h.cause h.put;
  big = big_done asked h.what e u.given v.held v.holds u.before u.now v.before v.now h.cause h.put;
  served = h;
  exact = exact asked h.what e u.given v.held v.holds u.before u.now v.before v.now h.cause h.put;
  done = no_faults h.what e v.held v.holds u.before u.now v.before v.now h.put h.calm;
}

-- WHAT WAS HELD BACK is sent on, or the sink failed: the status and the sink's use before, and after.
pub data IsSent (e : Exit) (v w : SinkUse) : Exit → Type 0 where
  sent : w.held ≡ v.held → w.before ≡ v.before → Appends v.holds w.holds [] → w.now ≡ v.now → IsSent e v w e
  kept_back : w.held ≡ v.held → w.before ≡ v.before → Appends v.holds w.holds [] → v.now ≤ w.now → Rose v.now w.now → IsSent e v w exit.WriteFault

same_text : (a b c : Option (List ℕ)) (text : List ℕ) → Appends a b text → Appends b c [] → Appends a c text
same_text a b c text p q = subst (λ (t : List ℕ). Appends a c t) (append-nil text) (appends_more a b c text [] p q)

same_front : (a b c : Option (List ℕ)) (text : List ℕ) → AppendsFront a b text → Appends b c [] → AppendsFront a c text
same_front a b c text p q = (p.0, p.1, same_text a b c p.0 p.2 q)

rose_more : (before mid now : ℕ) → Rose before mid → mid ≤ now → Rose before now
rose_more before mid now r l = omega (arith, r, l)

put_sent : (e f status : Exit) (text : List ℕ) (v w : SinkUse) → IsPutText e status text v.held v.holds v.before v.now → IsSent e v w f → IsPutText f status text w.held w.holds w.before w.now
put_sent e f status text v w (inl p) (sent held before none now) = inl (p.0, rw held (same_text v.held v.holds w.holds text p.1 none), now ∙ p.2 ∙ sym before)
put_sent e f status text v w (inr p) (sent held before none now) = inr (p.0, rw held (same_front v.held v.holds w.holds text p.1 none), rw before (rw now p.2))
put_sent e f status text v w (inl p) (kept_back held before none later rose) = inr (refl, rw held (text, ([], sym (append-nil text)), same_text v.held v.holds w.holds text p.1 none), rw before (subst (λ (n : ℕ). Rose n w.now) p.2 rose))
put_sent e f status text v w (inr p) (kept_back held before none later rose) = inr (refl, rw held (same_front v.held v.holds w.holds text p.1 none), rw before (rose_more v.before v.now w.now p.2 later))

served_sent : (asked : Option Call) (e f : Exit) (u : SourceUse) (v w : SinkUse) → IsServed asked e u v → IsSent e v w f → IsServed asked f u w
served_sent asked e f u v w h s = record {
  what = h.what;
  cause = h.cause;
  takes = h.takes;
  put = put_sent e f _ _ v w h.put s;
  calm = h.calm;
}

pub alone_sent : (e f status : Exit) (u : SourceUse) (v w : SinkUse) → IsPutAlone e status u v → IsSent e v w f → IsPutAlone f status u w
alone_sent e f status u v w h s = record {
  put = put_sent e f _ _ v w h.put s;
  untouched = h.untouched;
  calm = h.calm;
}

pub answered_sent : (words : List (List ℕ)) (e f : Exit) (u : SourceUse) (v w : SinkUse) → IsAnsweredOrShort words e u v → IsSent e v w f → IsAnsweredOrShort words f u w
answered_sent words e f u v w (inl h) s = inl (answered_of (call_of words) f u w (served_sent (call_of words) e f u v w h.served s))
answered_sent words e f u v w (inr h) s = inr (alone_sent e f exit.NoMemory u v w h s)

-- OF A RESULT: the arguments, where they are told

pub told_of : {T E S : Type 0} (r : Result T E) (words : List S) (told : T → List S) (bytes : List S → List (List ℕ)) (e : Exit) (u : SourceUse) (v : SinkUse) → IfOk r (λ all. words ≡ told all) → IsServed (call_of (bytes words)) e u v → IfOk r (λ all. IsAnsweredOrShort (bytes (told all)) e u v)
told_of (Ok all) words told bytes e u v same h = subst (λ (ws : List _). IsAnsweredOrShort (bytes ws) e u v) same (inl (answered_of (call_of (bytes words)) e u v h))
told_of (Err error) words told bytes e u v same h = tt

pub told_sent : {T E : Type 0} (r : Result T E) (words : T → List (List ℕ)) (e f : Exit) (u : SourceUse) (v w : SinkUse) → IfOk r (λ all. IsAnsweredOrShort (words all) e u v) → IsSent e v w f → IfOk r (λ all. IsAnsweredOrShort (words all) f u w)
told_sent (Ok all) words e f u v w h s = answered_sent (words all) e f u v w h s
told_sent (Err error) words e f u v w h s = tt

pub untold_sent : {T E : Type 0} (r : Result T E) (P : E → Type 0) (status e f : Exit) (u : SourceUse) (v w : SinkUse) → IfErr r (λ error. P error → IsPutAlone e status u v) → IsSent e v w f → IfErr r (λ error. P error → IsPutAlone f status u w)
untold_sent (Ok all) P status e f u v w h s = tt
untold_sent (Err error) P status e f u v w h s = λ p. alone_sent e f status u v w (h p) s
