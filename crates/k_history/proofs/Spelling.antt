-- A line is read as the entry that it spells.
use Rattle.std.proofs.Common.{◌≡◌, ℕ, ◌-◌, ◌≤◌, List, ◌++◌, length, take, length-append, append_assoc, refl, sym, ap, ◌∙◌, arith, Option, Some, None, IfSome}
use Rattle.std.specs.Prelude.{codes}
use Rattle.std.proofs.lemmas.List.{append_cancel_right}
use Rattle.std.proofs.Math.Seq.{take-append_seam}
use Rattle.k_ids.specs.declared.histories.Entry.{Entry}
use Rattle.k_text.specs.Texts.{entry_text, entry_words, joined}
use Rattle.k_history.specs.Fits.{FitsEntry, Spells}
use Rattle.k_history.specs.Reading.{parts_of, entry_of}
use Rattle.k_history.proofs.Parts.{joined_parts}
use Rattle.k_history.proofs.Read.{entry-read}
use Rattle.k_history.proofs.Spelled.{entry-spelled, entry_parts, entry_few}

pub line_parts : (line : List ℕ) (e : Entry) → Spells line e → parts_of line ≡ entry_words e
line_parts line e s = ap parts_of s.text ∙ entry_parts e s.fits

pub line_found : (line : List ℕ) (e : Entry) → Spells line e → entry_of (parts_of line) ≡ Some e
line_found line e s = ap entry_of (line_parts line e s) ∙ entry-spelled e s.fits

pub line_spelled : (line : List ℕ) (e : Entry) → entry_of (parts_of line) ≡ Some e → Spells line e
line_spelled line e h =
    let r = entry-read (parts_of line) e h in
    record { text = joined_parts line (entry_words e) r.0; fits = r.1 }

pub line_spells : (line : List ℕ) (o : Option Entry) → o ≡ entry_of (parts_of line) → IfSome o (Spells line)
line_spells line None h = tt
line_spells line (Some e) h = line_spelled line e (sym h)

-- A line of more than 13 words spells nothing.
pub line_short : (line : List ℕ) (e : Entry) → Spells line e → length (parts_of line) ≤ 13
line_short line e s = let same = ap length (line_parts line e s) in omega (arith, same, entry_few e)

-- No line spells two entries.
pub line_one : (line : List ℕ) (a b : Entry) → Spells line a → Spells line b → a ≡ b
line_one line a b s t = let e = line_found line a s in let f = line_found line b t in let both : Some a ≡ Some b = sym e ∙ f in cc

pub text_one : (a b : Entry) → FitsEntry a → FitsEntry b → entry_text a ≡ entry_text b → a ≡ b
text_one a b f g h =
    let same : joined (entry_words a) ≡ joined (entry_words b) = append_cancel_right (joined (entry_words a)) (joined (entry_words b)) (codes "\n") h in
    line_one (joined (entry_words a)) a b (record { text = refl; fits = f }) (record { text = same; fits = g })

-- What is written of an entry, without its line feed, spells it.
pub text_spells : (e : Entry) (buffer rest : List ℕ) (len : ℕ) → len ≡ length (entry_text e) → buffer ≡ entry_text e ++ rest → FitsEntry e → Spells (take (len - 1) buffer) e
text_spells e buffer rest len size is f =
    let words = joined (entry_words e) in
    let one : len - 1 ≡ length words = omega (arith, size, length-append words (codes "\n")) in
    let whole : buffer ≡ words ++ (codes "\n" ++ rest) = is ∙ append_assoc words (codes "\n") rest in
    record { text = rw (one, whole) (take-append_seam words (codes "\n" ++ rest)); fits = f }
