use Rattle.std.proofs.Common.{◌≡◌, ℕ, List, [], ◌∷◌, ◌++◌, refl, ap, ◌∙◌}
use Rattle.k_world.specs.Boot.{boot_words}
use Rattle.k_core.proofs.Boots.{four_more}
use Rattle.k_core.proofs.boot.words_of.Goals as goal

pub loop-number-preserved : goal.loop-number-preserved
loop-number-preserved c =
    let a : ℕ = c.bits.result in
    let l : ℕ = c.bits-in-loop-number.result in
    let d : ℕ = c.bits-in-loop-number-2.result in
    let piece : boot_words c.args.script.now c.args.carriers c.loop-number.number ≡ a ∷ 0 ∷ l ∷ d ∷ [] =
    rw (
      c.bits.ensures,
      c.bits-in-loop-number.ensures,
      c.bits-in-loop-number-2.ensures,
      c.state_of.ensures.word,
      c.context_of.ensures.word,
    ) refl in
    let one : c.push-in-loop-number.new.self.items ≡ (c.loop-number.words.items ++ a ∷ []) ++ 0 ∷ [] =
    c.in_ok-push-2.ensures.items ∙ ap (λ (xs : List ℕ). xs ++ 0 ∷ []) c.in_ok-push.ensures.items in
    c.in_ok-push-4.ensures.items
    ∙ (ap (λ (xs : List ℕ). xs ++ d ∷ []) (c.in_ok-push-3.ensures.items
    ∙ ap (λ (xs : List ℕ). xs ++ l ∷ []) one)
    ∙ four_more (boot_words c.args.script.now c.args.carriers) c.loop-number.number c.loop-number.words.items
    a 0 l d c.loop-number.invariant piece)
