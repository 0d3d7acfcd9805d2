-- Histories, and the calls and the programs of their threads, with one entry more.
use Rattle.std.proofs.Common.{◌≡◌, ◌≢◌, ℕ, true, false, List, [], ◌∷◌, ◌++◌, refl, sym, ap, ◌∙◌, Option, Some, None, Ok, Err, inl, inr}
use Rattle.std.specs.Option.{option_or}
use Rattle.std.proofs.lemmas.Bool.{cases_Bool, and_parts, eqb-true, eq-eqb, cond_both}
use Rattle.std.proofs.lemmas.List.{append-nil}
use Rattle.k_ids.specs.declared.threads.ThreadId.{ThreadId}
use Rattle.k_ids.specs.declared.calls.Phase.{Phase}
use Rattle.k_ids.specs.declared.calls.Act.TheVariants as act
use Rattle.k_ids.specs.declared.calls.Outcome.{Outcome}
use Rattle.k_ids.specs.declared.histories.Event.{Event}
use Rattle.k_ids.specs.declared.histories.Entry.{Entry}
use Rattle.k_ids.specs.declared.histories.Unlawful.{Unlawful}
use Rattle.k_model.specs.State.{KernelState, found_of, same_id}
use Rattle.k_model.specs.Step.{step, may_act, acted}
use Rattle.k_model.specs.History.{calls_of, call_in}
use Rattle.k_model.proofs.Replays.{calls_push}
use Rattle.k_script.specs.Script.{Script}
use Rattle.k_script.specs.Plays.{is_first, program_made, made_program, program_of, created_program, makes}

pub step_gives : (k n : KernelState) (e : Event) (o : Outcome) → step k e ≡ Ok (n, o) → (may_act k e.who e.serial e.act ≡ true) × (acted k e.who e.serial e.act ≡ (n, o))
unfolding step
step_gives k n e o h = elim (cases_Bool (may_act k e.who e.serial e.act)) [
  | inl t ↦ let got : Ok (acted k e.who e.serial e.act) ≡ Ok (n, o) = sym (rw t refl) ∙ h in (t, cc)
  | inr f ↦
      let shown : Unlawful = record { found = found_of k e.who.number; serial = (k.place e.who.number).serial } in
      let no : Err shown ≡ Ok (n, o) = sym (rw f refl) ∙ h in absurd cc
]

-- IDS

pub same_is : (a b : ThreadId) → same_id a b ≡ true → a ≡ b
same_is a b h =
    let p = and_parts _ _ h in
    let number : a.number ≡ b.number = eqb-true a.number b.number p.0 in
    let version : a.version ≡ b.version = eqb-true a.version b.version p.1 in
    λ i. record { number = number i; version = version i }

pub same_self : (id : ThreadId) → same_id id id ≡ true
same_self id = rw (eq-eqb id.number id.number refl, eq-eqb id.version id.version refl) refl

-- ids of different numbers, or of different versions
pub apart_from : (a b : ThreadId) → a ≢ b → same_id a b ≡ false
apart_from a b ne = elim (cases_Bool (same_id a b)) [
  | inl t ↦ absurd (ne (same_is a b t))
  | inr f ↦ f
]

-- THE CALLS OF A THREAD

pub calls_apart : (es : List Entry) (e : Entry) (id : ThreadId) → same_id e.event.who id ≡ false → calls_of id (es ++ e ∷ []) ≡ calls_of id es
calls_apart es e id f = calls_push id es e ∙ rw f (append-nil (calls_of id es))

pub calls_mine : (es : List Entry) (who : ThreadId) (serial : ℕ) (p : Phase) (o : Outcome) → calls_of who (es ++ record { event = record { who = who; serial = serial; act = act.Call p }; outcome = o } ∷ []) ≡ calls_of who es ++ (serial, p) ∷ []
calls_mine es who serial p o = calls_push who es (record { event = record { who = who; serial = serial; act = act.Call p }; outcome = o }) ∙ rw (same_self who) refl

-- an event that isn't a call
pub calls_same : (es : List Entry) (e : Entry) (id : ThreadId) → call_in e.event.act e.event.serial ≡ [] → calls_of id (es ++ e ∷ []) ≡ calls_of id es
calls_same es e id none = calls_push id es e ∙ elim (cases_Bool (same_id e.event.who id)) [
  | inl t ↦ rw t (rw none (append-nil (calls_of id es)))
  | inr f ↦ rw f (append-nil (calls_of id es))
]

-- THE PROGRAM OF A THREAD

or_assoc : (a b c : Option ℕ) → option_or a (option_or b c) ≡ option_or (option_or a b) c
or_assoc (Some x) b c = refl
or_assoc None b c = refl

or_none : (a : Option ℕ) → option_or a None ≡ a
or_none (Some x) = refl
or_none None = refl

made_push : (es : List Entry) (e : Entry) (id : ThreadId) → made_program (es ++ e ∷ []) id ≡ option_or (made_program es id) (program_made e id)
made_push [] e id = or_none (program_made e id)
made_push (x ∷ es) e id = ap (option_or (program_made x id)) (made_push es e id) ∙ or_assoc (program_made x id) (made_program es id) (program_made e id)

-- A thread that the entry doesn't make has the program that it had.
pub program_stays : (script : Script) (es : List Entry) (e : Entry) (id : ThreadId) → program_made e id ≡ None → program_of script (es ++ e ∷ []) id ≡ program_of script es id
program_stays script es e id none = elim (cases_Bool (is_first script id)) [
  | inl t ↦ rw t refl
  | inr f ↦ rw f (made_push es e id ∙ ap (option_or (made_program es id)) none ∙ or_none (made_program es id))
]

-- A thread that has a program keeps it.
pub program_kept : (script : Script) (es : List Entry) (e : Entry) (id : ThreadId) (program : ℕ) → program_of script es id ≡ Some program → program_of script (es ++ e ∷ []) id ≡ Some program
program_kept script es e id program h = elim (cases_Bool (is_first script id)) [
  | inl t ↦ rw t (rw t at h)
  | inr f ↦ rw f (made_push es e id ∙ ap (λ (a : Option ℕ). option_or a (program_made e id)) (rw f at h))
]

-- A thread that has none gets that which the entry gives it.
pub program_given : (script : Script) (es : List Entry) (e : Entry) (id : ThreadId) (program : ℕ) → program_of script es id ≡ None → program_made e id ≡ Some program → program_of script (es ++ e ∷ []) id ≡ Some program
program_given script es e id program h g = elim (cases_Bool (is_first script id)) [
  | inl t ↦ let no : Some _ ≡ None = rw t at h in absurd cc
  | inr f ↦ rw f (made_push es e id ∙ ap (λ (a : Option ℕ). option_or a (program_made e id)) (rw f at h) ∙ g)
]

-- An entry whose call isn't a create gives none.
pub none_made : (e : Entry) (id : ThreadId) → created_program e.event.act ≡ None → program_made e id ≡ None
none_made e id none = cond_both (makes e.outcome id) (created_program e.event.act) None (λ (o : Option ℕ). o ≡ None) (λ _. none) (λ _. refl)

pub other_made : (e : Entry) (id : ThreadId) → makes e.outcome id ≡ false → program_made e id ≡ None
other_made e id f = rw f refl

pub this_made : (e : Entry) (id : ThreadId) (program : ℕ) → makes e.outcome id ≡ true → created_program e.event.act ≡ Some program → program_made e id ≡ Some program
this_made e id program t h = rw t h
