use Rattle.std.proofs.Common.{◌≡◌, ℕ, Option, Some, sym, subst, ap, ◌∙◌}
use Rattle.std.specs.Prelude.{option_map}
use Rattle.k_ids.specs.declared.context_word.ContextWord.{ContextWord}
use Rattle.k_ids.specs.ContextWords.{IsContextSpelling, context_word_of}
use Rattle.k_locks.specs.declared.locks.WordName.TheVariants as word
use Rattle.k_carrier.specs.Running.{holder_of}
use Rattle.k_world.specs.Worlds.{World, context_by}
use Rattle.k_store.specs.Conditions.{found_at}
use Rattle.k_store.specs.Stores.{with_store}
use Rattle.k_core.specs.Parts.{with_carriers}
use Rattle.k_core.proofs.Found.{rests}
use Rattle.k_core.proofs.world.holder_of.Goals as goal

-- the word that was read
same_word : (read : Option ContextWord) (bits words : ℕ) (found : ContextWord) → bits ≡ words →
    (IsContextSpelling bits → read ≡ Some (context_word_of bits)) → IsContextSpelling words →
    read ≡ Some found →
    found ≡ context_word_of words
same_word read bits words found e known spelled is =
    let same : Some found ≡ Some (context_word_of words) =
    sym is ∙ (known (subst IsContextSpelling (sym e) spelled) ∙ ap (λ n. Some (context_word_of n)) e) in
    cc

pub returns-in-Clean : goal.returns-in-Clean
returns-in-Clean c = λ script w.
    let v : World = with_carriers script c.args.carriers.now (with_store script c.args.store.now w) in
    let spelled = same_word c.read.result c.word.result
    (found_at c.args.store.now.words (word.Context c.args.context)) c.in-Some.word c.word.ensures
    c.read.ensures.known c.requires.2.spelled c.in-Some.is in
    c.holder-in-Clean.ensures script ∙ ap (option_map (λ x. holder_of x c.args.wants))
    (sym (ap (context_by v c.args.context) (sym spelled)
    ∙ rests v c.args.context c.in-Some.word c.in-Clean.is))
