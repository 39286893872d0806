-- New objects as they are handed over: what a filled row holds, and that an object of any kind is handed over whole.
use Rattle.std.specs.Prelude.{ℕ, ◌*◌, ◌<◌, ◌≡◌, List, [], length, replicate}
use Rattle.std.proofs.Common.{arith, sym, ◌∙◌, take_at, take_all}
use Rattle.std.proofs.Math.Bool.{cond}
use Rattle.std.proofs.Math.Path.{refl, ap}
use Rattle.std.proofs.lemmas.List.{length-replicate}
use Rattle.labels.specs.declared.Label.{Label}
use Rattle.labels.specs.Core.{word_count, plain}
use Rattle.rules.specs.Kernel.{thread_code, gate_code, segment_code, container_code, kind_code, blank, thread_of, gate_of, segment_of, container_of, text_size, Kind, thread, gate, segment}
use Rattle.rules.specs.Kernel.{container, is_thread, is_gate, is_segment, is_container, has_clearance}
use Rattle.tables.specs.Layout.{View, id_t, kind_t, mask_t, fixed_t, quota_t, len_t, entry_t, label_default_t, label_words_t, clear_default_t, clear_words_t, description_t, closure_t, put_t, run_t}
use Rattle.book.specs.declared.make.NewRow.{NewRow}
use Rattle.book.specs.Enact.{padded, relabelled, row_filled}
use Rattle.rules.proofs.Laws.Kinds.{kind_from_lem}
use Rattle.book.specs.Book.{kind_from}
use Rattle.book.specs.Make.{object_of, Handed, numbers_filled}

-- ---- n numbers

-- Of n numbers all are kept.
pub padded_all : (n : ℕ) (l : List ℕ) → length l ≡ n → padded n l ≡ l
unfolding padded
padded_all n l e = take_at l (replicate n 0) n e

-- Of none, zeros stand there.
pub padded_none : (n : ℕ) → padded n [] ≡ replicate n 0
unfolding padded
padded_none n = take_all n (replicate n 0) (omega (arith, length-replicate {A = ℕ} n 0))

-- ---- a filled row

-- What is handed over is written as the rules' object.
pub filled_is : (r id : ℕ) (n : NewRow) (s x : List ℕ) (v : View) → Handed n s x
    → run_t closure_t (r * text_size) x (run_t description_t (r * text_size) s
    (relabelled r n.label n.clearance (numbers_filled r id n.kind n.mask n.quota n.entry v)))
    ≡ row_filled r id (object_of n s x) v
unfolding row_filled relabelled numbers_filled
filled_is r id n s x v h =
    sym (λ i.
    run_t closure_t (r * text_size) (h.closure i)
    (run_t description_t (r * text_size) (h.description i)
    (run_t clear_words_t (r * word_count) (h.clearance_words i) (put_t clear_default_t r (h.clearance_default i)
    (run_t label_words_t (r * word_count) (h.label_words_lem i) (put_t label_default_t r (h.label_default_lem i)
    (put_t entry_t r (h.entry i)
    (put_t len_t r 0
    (put_t quota_t r (h.quota i)
    (put_t fixed_t r 0
    (put_t mask_t r (h.mask i)
    (put_t kind_t r (h.code i)
    (put_t id_t r id v)))))))))))))

-- ---- the kinds

module _ (label : Label) (s : List ℕ) (low : label.default < 256) (long : length label.words ≡ word_count) (text : length s ≡ text_size) where
  -- An object of any kind is handed over whole, where what its kind has not is zero.
  handed : (k : Kind) (clearance : Label) (mask quota entry : ℕ) (x : List ℕ) → clearance.default < 256 → length x ≡ text_size
      → cond (is_container k) mask 0 ≡ mask → cond (is_gate k) entry 0 ≡ entry
      → (cond (has_clearance k) clearance blank).default ≡ clearance.default → padded word_count (cond (has_clearance k) clearance blank).words ≡ clearance.words
      → padded text_size (cond (is_gate k) x []) ≡ x
      → Handed (record { kind = kind_code k; mask = mask; quota = quota; entry = entry; label = label; clearance = clearance }) s x
  unfolding object_of
  handed k clearance mask quota entry x clow xlong hmask hentry hdefault hwords hclosure =
      let e : kind_from (kind_code k) ≡ k = kind_from_lem k in
      record {
        code = ap kind_code e;
        mask = ap (λ (j : Kind). cond (is_container j) mask 0) e ∙ hmask;
        quota = refl;
        entry = ap (λ (j : Kind). cond (is_gate j) entry 0) e ∙ hentry;
        label_low = low;
        label_default_lem = refl;
        label_words_lem = padded_all word_count label.words long;
        clearance_low = clow;
        clearance_default = ap (λ (j : Kind). (cond (has_clearance j) clearance blank).default) e ∙ hdefault;
        clearance_words = ap (λ (j : Kind). padded word_count (cond (has_clearance j) clearance blank).words) e ∙ hwords;
        description_long = text;
        description = padded_all text_size s text;
        closure_long = xlong;
        closure = ap (λ (j : Kind). padded text_size (cond (is_gate j) x [])) e ∙ hclosure;
      }

  -- A thread has no mask, entry or closure, and quota 1,
  pub thread_handed : (clearance : Label) → clearance.default < 256 → length clearance.words ≡ word_count
      → Handed (record { kind = thread_code; mask = 0; quota = 1; entry = 0; label = label; clearance = clearance }) s (replicate text_size 0)
  unfolding kind_code has_clearance is_thread is_gate is_container
  thread_handed clearance clow clong =
      handed thread clearance 0 1 0 (replicate text_size 0) clow refl refl refl refl (padded_all word_count clearance.words clong) (padded_none text_size)

  -- a gate no mask, and quota 1,
  pub gate_handed : (clearance : Label) → clearance.default < 256 → length clearance.words ≡ word_count
      → (entry : ℕ) (x : List ℕ) → length x ≡ text_size
      → Handed (record { kind = gate_code; mask = 0; quota = 1; entry = entry; label = label; clearance = clearance }) s x
  unfolding kind_code has_clearance is_thread is_gate is_container
  gate_handed clearance clow clong entry x xlong =
      handed gate clearance 0 1 entry x clow xlong refl refl refl (padded_all word_count clearance.words clong) (padded_all text_size x xlong)

  -- a segment no mask, entry, clearance or closure,
  pub segment_handed : (quota : ℕ) → Handed (record { kind = segment_code; mask = 0; quota = quota; entry = 0; label = label; clearance = plain 0 }) s (replicate text_size 0)
  unfolding kind_code has_clearance is_thread is_gate is_container blank
  segment_handed quota = handed segment (plain 0) 0 quota 0 (replicate text_size 0) (omega arith) refl refl refl refl (padded_none word_count) (padded_none text_size)

  -- and a container no entry, clearance or closure.
  pub container_handed : (mask quota : ℕ) → Handed (record { kind = container_code; mask = mask; quota = quota; entry = 0; label = label; clearance = plain 0 }) s (replicate text_size 0)
  unfolding kind_code has_clearance is_thread is_gate is_container blank
  container_handed mask quota =
      handed container (plain 0) mask quota 0 (replicate text_size 0) (omega arith) refl refl refl refl (padded_none word_count) (padded_none text_size)

-- Each is the object of the rules.
pub row_is_thread : (label clearance : Label) (s x : List ℕ)
    → object_of (record { kind = thread_code; mask = 0; quota = 1; entry = 0; label = label; clearance = clearance }) s x ≡ thread_of label clearance s
unfolding object_of kind_from kind_code has_clearance is_thread is_gate is_segment is_container thread_of
row_is_thread label clearance s x = refl

pub row_is_gate : (label clearance : Label) (entry : ℕ) (s x : List ℕ)
    → object_of (record { kind = gate_code; mask = 0; quota = 1; entry = entry; label = label; clearance = clearance }) s x ≡ gate_of label clearance entry x s
unfolding object_of kind_from kind_code has_clearance is_thread is_gate is_segment is_container gate_of
row_is_gate label clearance entry s x = refl

pub row_is_segment : (label : Label) (quota : ℕ) (s x : List ℕ)
    → object_of (record { kind = segment_code; mask = 0; quota = quota; entry = 0; label = label; clearance = plain 0 }) s x ≡ segment_of label s quota
unfolding object_of kind_from kind_code has_clearance is_thread is_gate is_segment is_container segment_of
row_is_segment label quota s x = refl

pub row_is_container : (label : Label) (mask quota : ℕ) (s x : List ℕ)
    → object_of (record { kind = container_code; mask = mask; quota = quota; entry = 0; label = label; clearance = plain 0 }) s x ≡ container_of label s mask quota
unfolding object_of kind_from kind_code has_clearance is_thread is_gate is_segment is_container container_of
row_is_container label mask quota s x = refl
