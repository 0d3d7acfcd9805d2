-- A good board within its ranges stays so, and so the premises are those on queues alone.
use Rattle.std.proofs.Common.{◌≡◌, ℕ, refl, sym, subst}
use Rattle.k_board.specs.Words.{Programs}
use Rattle.k_board.specs.Boards.{Board}
use Rattle.k_board.specs.Turns.{Turn, sends, receives, creates, destroys, goes_alone, begins}
use Rattle.k_board.specs.Turns.{turns_to_work, wakes, switches, begins_switch, ends_switch}
use Rattle.k_good.specs.Ranges.{NamesFit}
use Rattle.k_good.proofs.Goods.{good_keeps, supports}
use Rattle.k_good.proofs.RangesKeep.{within_keeps}
use Rattle.k_sections.specs.Kept.{IsKept, IsQueued, IsSoundBoard}

size_stays : (g : Programs) (b : Board) (i : ℕ) (b' : Board) → Turn g b i b' → b'.size ≡ b.size
size_stays g b i _ (sends c p r at an) = refl
size_stays g b i _ (receives c p r at an) = refl
size_stays g b i _ (creates c p r at an) = refl
size_stays g b i _ (destroys c p r at an) = refl
size_stays g b i _ (goes_alone p r at can an) = refl
size_stays g b i _ (begins l f at e) = refl
size_stays g b i _ (turns_to_work l count at e) = refl
size_stays g b i _ (wakes at) = refl
size_stays g b i _ (switches c p r at going an) = refl
size_stays g b i _ (begins_switch c at) = refl
size_stays g b i _ (ends_switch c s at) = refl

pub sound_kept : (g : Programs) (J : Board → Type 0) → IsQueued g J → IsKept g (IsSoundBoard g J)
sound_kept g J q = record {
  good = λ b h. h.good;
  within = λ b h. h.within;
  queues = λ b h. q.queues b h.queued;
  entered = λ b h. q.entered b h.queued;
  kept = λ b b' i h t. record {
    good = good_keeps g b b' i h.good (q.queues b h.queued i) t;
    within = within_keeps g b h.good.places h.within h.names i b' (supports g b i h.good (q.queues b h.queued i)) t;
    names = subst (NamesFit g) (sym (size_stays g b i b' t)) h.names;
    queued = q.kept b b' i h.good h.within h.queued t;
  };
}
