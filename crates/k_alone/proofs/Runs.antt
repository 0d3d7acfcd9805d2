-- Runs, step by step, and what each kind of step is told.
use Rattle.std.proofs.Common.{◌≡◌, ℕ, zero, suc, ◌<◌, ◌^◌, List, ◌++◌, refl, sym, ap, ◌∙◌, subst, arith, Option}
use Rattle.std.proofs.lemmas.Bool.{eq-eqb}
use Rattle.std.specs.Option.{option_to_list}
use Rattle.k_ids.specs.declared.histories.Entry.{Entry}
use Rattle.k_ids.specs.declared.threads.ThreadId.{ThreadId}
use Rattle.k_ids.specs.declared.context_word.ContextWord.TheVariants.{Empty, Clean}
use Rattle.k_ids.specs.declared.state_word.StateWord.{StateWord}
use Rattle.k_ids.specs.ContextWords.{IsVersion, context_bits}
use Rattle.k_ids.specs.StateWords.{IsStateSpelling, IsStateWord, state_bits}
use Rattle.k_ids.proofs.ContextSpelled.{context-read}
use Rattle.k_ids.proofs.StateSpelled.{state-read, state-whole}
use Rattle.k_locks.specs.declared.locks.WordName.TheVariants as word
use Rattle.k_locks.specs.declared.steps.Step.{Step}
use Rattle.k_locks.specs.declared.steps.Step.TheVariants as step
use Rattle.k_locks.specs.declared.steps.Answer.{Answer}
use Rattle.k_locks.specs.declared.steps.Answer.TheVariants as answer
use Rattle.k_locks.specs.declared.steps.Told.TheVariants as told
use Rattle.k_locks.specs.declared.steps.Went.{Went}
use Rattle.k_ids.specs.declared.threads.Message.{Message}
use Rattle.k_ids.specs.Messages.{message_bits}
use Rattle.k_ids.proofs.MessagePacked.{message-read}
use Rattle.k_shown.specs.Memory.{Memory, with_context, with_mail, with_word}
use Rattle.k_shown.specs.Sound.{IsSoundMemory}
use Rattle.k_alone.specs.Alone.{CanStep, Kind, Run, stepped, run, answered, performed, answer_at}
use Rattle.k_shown.proofs.States.{upd_self}

-- A run leads from one point to another, and the code can make it.
pub record Goes {S : Type 0} (t : Kind S) (a b : Run S) : Type 0 where
  pub steps : ℕ
  pub runs : run t steps a ≡ b
  pub able : (i : ℕ) → i < steps → CanStep t (run t i a)

pub arrived : {S : Type 0} (t : Kind S) (a : Run S) → Goes t a a
unfolding run
arrived t a = record { steps = zero; runs = refl; able = λ i l. absurd (omega (arith, l)) }

pub on : {S : Type 0} (t : Kind S) (a b c : Run S) → CanStep t a → stepped t a ≡ b → Goes t b c → Goes t a c
unfolding run
on {S = S} t a b c may e g = record { steps = suc g.steps; runs = ap (run t g.steps) e ∙ g.runs; able = each }
  where
    each : (i : ℕ) → i < suc g.steps → CanStep t (run t i a)
    each zero l = may
    each (suc i) l = subst (λ (x : Run S). CanStep t (run t i x)) (sym e) (g.able i (omega (arith, l)))

run_then : {S : Type 0} (t : Kind S) (n : ℕ) (a b c : Run S) → ((i : ℕ) → i < n → CanStep t (run t i a)) → run t n a ≡ b → Goes t b c → Goes t a c
unfolding run
run_then {S = S} t zero a b c may e g = subst (λ (x : Run S). Goes t x c) (sym e) g
run_then {S = S} t (suc n) a b c may e g = on t a (stepped t a) c (may zero (omega arith)) refl (run_then t n (stepped t a) b c (λ i l. may (suc i) (omega (arith, l))) e g)

pub then : {S : Type 0} (t : Kind S) (a b c : Run S) → Goes t a b → Goes t b c → Goes t a c
then t a b c f g = run_then t f.steps a b c f.able f.runs g

-- The code can make a step that is told this.
pub can : {S : Type 0} (t : Kind S) (a : Run S) (x : Answer) → t.may_ask a.section → answer_at t a ≡ x → t.may_tell a.section x → CanStep t a
can t a x ask e tell = record { ask = ask; tell = subst (t.may_tell a.section) (sym e) tell }

-- One step, part by part.
pub one : {S : Type 0} (t : Kind S) (a : Run S) (s : Step) (x : Answer) (m : Memory) (n : S) (o : Option Entry) (es : List Entry) (w : Went) → t.next a.section ≡ s → answered a.memory s ≡ x → performed a.memory s ≡ m → t.after a.section x ≡ n → t.decides a.memory a.section x ≡ o → a.entries ++ option_to_list o ≡ es → t.went a.section x ≡ w → stepped t a ≡ record { memory = m; section = n; entries = es; went = w }
one t a s x m n o es w e1 e2 e3 e4 e6 e7 e8 =
    let ex : answer_at t a ≡ x = ap (answered a.memory) e1 ∙ e2 in
    let f3 : performed a.memory (t.next a.section) ≡ m = ap (performed a.memory) e1 ∙ e3 in
    let f4 : t.after a.section (answer_at t a) ≡ n = ap (t.after a.section) ex ∙ e4 in
    let f7 : a.entries ++ option_to_list (t.decides a.memory a.section (answer_at t a)) ≡ es = ap (λ (y : Answer). a.entries ++ option_to_list (t.decides a.memory a.section y)) ex ∙ ap (λ (y : Option Entry). a.entries ++ option_to_list y) e6 ∙ e7 in
    let f8 : t.went a.section (answer_at t a) ≡ w = ap (t.went a.section) ex ∙ e8 in
    λ d. record { memory = f3 d; section = f4 d; entries = f7 d; went = f8 d }

-- An exchange from the word that is there is won, and writes the new one.
pub won : (m : Memory) (n : ℕ) (w v : StateWord) → m.word n ≡ w → answered m (step.Exchange (word.State n) (state_bits w) (state_bits v)) ≡ answer.Told told.Won
won m n w v e = rw (eq-eqb (state_bits (m.word n)) (state_bits w) (ap state_bits e)) refl

pub writes : (m : Memory) (n : ℕ) (w v : StateWord) → m.word n ≡ w → IsStateWord v → performed m (step.Exchange (word.State n) (state_bits w) (state_bits v)) ≡ with_word m n v
writes m n w v e s = rw (eq-eqb (state_bits (m.word n)) (state_bits w) (ap state_bits e)) (ap (with_word m n) (state-read v s))

-- A load leaves all as it was.
pub loads : (m : Memory) (n : ℕ) → IsStateWord (m.word n) → performed m (step.Load (word.State n)) ≡ m
loads m n s = ap (with_word m n) (state-read (m.word n) s) ∙ ap (λ (f : ℕ → StateWord). record m { word = f }) (upd_self m.word n)

abbrev pub word_told : Memory → ℕ → Answer
word_told m n = answer.Told (told.Loaded (state_bits (m.word n)))

-- So the step loads a word.
pub load : {S : Type 0} (t : Kind S) (a : Run S) (n : ℕ) → t.next a.section ≡ step.Load (word.State n) → IsStateWord (a.memory.word n) → stepped t a ≡ record { memory = a.memory; section = t.after a.section (word_told a.memory n); entries = a.entries ++ option_to_list (t.decides a.memory a.section (word_told a.memory n)); went = t.went a.section (word_told a.memory n) }
load t a n e s = one t a (step.Load (word.State n)) (word_told a.memory n) a.memory _ _ _ _ e refl (loads a.memory n s) refl refl refl refl

-- A context is placed where there is none, and a clean one is removed.
pub places : (m : Memory) (id : ThreadId) (program priority : ℕ) → m.context id.number ≡ Empty → IsVersion id.version → performed m (step.Place id program priority) ≡ with_context m id.number (Clean id.version)
places m id program priority none small = rw (eq-eqb (context_bits (m.context id.number)) (context_bits Empty) (ap context_bits none)) (ap (with_context m id.number) (context-read (Clean id.version) small))

pub removes : (m : Memory) (id : ThreadId) → m.context id.number ≡ Clean id.version → performed m (step.Remove id) ≡ with_context m id.number Empty
removes m id clean = rw (eq-eqb (context_bits (m.context id.number)) (context_bits (Clean id.version)) (ap context_bits clean)) (ap (with_context m id.number) (context-read Empty tt))

-- A mail is stored.
pub stores : (m : Memory) (n : ℕ) (message : Message) → message.low < 2 ^ 32 → performed m (step.Store (word.Mail n) (message_bits message)) ≡ with_mail m n message
stores m n message low = ap (with_mail m n) (message-read message low)

-- What a load is told is a spelling.
pub spelled : (m : Memory) → IsSoundMemory m → (n : ℕ) → IsStateSpelling (state_bits (m.word n))
spelled m good n = state-whole (m.word n) (good.words.words n)
