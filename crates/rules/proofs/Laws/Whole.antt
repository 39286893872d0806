-- What soundness says of one object alone: from a sound world, at a greater number, and after a fair edit.
use Rattle.std.specs.Prelude.{ℕ, suc, Bool, true, false, ◌≡◌}
use Rattle.std.proofs.Common.{sym, subst}
use Rattle.labels.specs.Core.{well_formed}
use Rattle.labels.specs.Core.Fresh.{formed_wider}
use Rattle.rules.specs.Kernel.{is_live, is_segment, is_container, has_clearance, Obj, World, Edit, relabel, fix, requota, rewrite, edit, alter}
use Rattle.rules.specs.Sound.{Sound}
use Rattle.rules.specs.Fair.{Whole, Fair}
use Rattle.rules.proofs.Laws.Bools.{not_both, or_cases}
use Rattle.rules.proofs.Laws.Kinds.{thread_cleared, cleared_no_segment, cleared_no_container}

pub whole : (w : World) → Sound w → (o : ℕ) → is_live (w.obj o).kind ≡ true → Whole w.next (w.obj o)
whole w s o h = record { range = s.ranges o h; formed = s.labels o h; cleared = s.clearances o }

pub whole_wider : (n : ℕ) (x : Obj) → Whole n x → Whole (suc n) x
whole_wider n x a =
    record {
      range = a.range;
      formed =
          record {
            label = formed_wider n (has_clearance x.kind) x.label a.formed.label;
            clearance = λ k. formed_wider n false x.clearance (a.formed.clearance k);
          };
      cleared = a.cleared;
    }

-- an edit that is fair keeps an object whole, from the next number on
pub edit_whole : (w : World) (o : ℕ) (e : Edit) → Fair w (alter o e) → Whole (suc w.next) (w.obj o) → Whole (suc w.next) (edit e (w.obj o))
unfolding edit
edit_whole w o (relabel l c) f a =
    let k = thread_cleared (w.obj o).kind f.is_thread_lem in
    let r = a.range in
    record {
      range =
          record {
            quota_some = r.quota_some;
            quota_one = r.quota_one;
            mask_most = r.mask_most;
            length_most = r.length_most;
            fixed_segment = r.fixed_segment;
            label_words_lem = f.label_words_lem;
            clearance_words = λ k. f.clearance_words;
            description_size = r.description_size;
            closure_size = r.closure_size;
          };
      formed =
          record { label = subst (λ (b : Bool). well_formed (suc w.next) b l ≡ true) (sym k) f.label; clearance = λ k. f.clearance };
      cleared = λ k. f.cleared;
    }
edit_whole w o fix f a =
    let r = a.range in
    record {
      range =
          record {
            quota_some = r.quota_some;
            quota_one = r.quota_one;
            mask_most = r.mask_most;
            length_most = r.length_most;
            fixed_segment = λ h. f;
            label_words_lem = r.label_words_lem;
            clearance_words = r.clearance_words;
            description_size = r.description_size;
            closure_size = r.closure_size;
          };
      formed = record { label = a.formed.label; clearance = a.formed.clearance };
      cleared = a.cleared;
    }
edit_whole w o (requota q) f a =
    let r = a.range in
    let k = (w.obj o).kind in
    record {
      range =
          record {
            quota_some = f.some;
            quota_one = λ c.
                or_cases (is_segment k) (is_container k) f.movable (λ h. not_both (is_segment k) h (cleared_no_segment k c))
                (λ h. not_both (is_container k) h (cleared_no_container k c));
            mask_most = r.mask_most;
            length_most = r.length_most;
            fixed_segment = r.fixed_segment;
            label_words_lem = r.label_words_lem;
            clearance_words = r.clearance_words;
            description_size = r.description_size;
            closure_size = r.closure_size;
          };
      formed = record { label = a.formed.label; clearance = a.formed.clearance };
      cleared = a.cleared;
    }
edit_whole w o (rewrite b) f a =
    let r = a.range in
    record {
      range =
          record {
            quota_some = r.quota_some;
            quota_one = r.quota_one;
            mask_most = r.mask_most;
            length_most = f.short;
            fixed_segment = r.fixed_segment;
            label_words_lem = r.label_words_lem;
            clearance_words = r.clearance_words;
            description_size = r.description_size;
            closure_size = r.closure_size;
          };
      formed = record { label = a.formed.label; clearance = a.formed.clearance };
      cleared = a.cleared;
    }
