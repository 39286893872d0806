-- What an untainted caller can know of an object that it finds in a room, that is in an untainted container:
-- all of it, unless its insides can change unseen.
use Rattle.std.specs.Prelude.{ℕ, Bool, true, false, ◌&&◌, ◌||◌, ◌≡◌, refl}
use Rattle.std.proofs.Math.Bool.{not}
use Rattle.std.proofs.Math.Path.{sym, ap, ap₂}
use Rattle.std.proofs.Common.{◌∙◌}
use borrow.Author.Tests.{not-true}
use Rattle.rules.specs.Kernel.{Kind, is_thread, is_gate, is_segment, is_container, Obj, Edit, edit}
use Rattle.rules.proofs.Laws.Bools.{and_r, or_cases, not_both, not_i, bool_cases}
use Rattle.rules.proofs.Laws.Kinds.{is_gate_lem, segment_no_thread, container_no_thread}
use Rattle.rules.proofs.Laws.Edit.{edit_kind}
use Rattle.tainted.specs.Tainted.{untainted, untainted_container}
use Rattle.tainted.specs.Laws.Seen.{veiled, secret, outside, Seen, seen}

-- ---- kinds

module _ (k : Kind) where
  pub gate_open : is_gate k ≡ true → veiled k ≡ false
  unfolding veiled
  gate_open h = ap veiled (is_gate_lem k h)

  pub movable_no_thread : (is_segment k || is_container k) ≡ true → is_thread k ≡ false
  movable_no_thread h = or_cases (is_segment k) (is_container k) h (segment_no_thread k) (container_no_thread k)

-- ---- what follows from the same appearance

module _ (v : ℕ) where
  secret_tainted : (x : Obj) → secret v x ≡ true → untainted v x ≡ false
  unfolding secret
  secret_tainted x e = not-true (untainted v x) (and_r (veiled x.kind) (not (untainted v x)) e)

  pub untainted_not_secret : (x : Obj) → untainted v x ≡ true → secret v x ≡ false
  untainted_not_secret x e = not_i (secret v x) (λ s. not_both (untainted v x) e (secret_tainted x s))

  open_not_secret : (x : Obj) → veiled x.kind ≡ false → secret v x ≡ false
  unfolding secret
  open_not_secret x e = rw e

  module _ (x y : Obj) (h : seen v x ≡ seen v y) where
    pub same_secret : secret v x ≡ secret v y
    unfolding seen
    same_secret = ap (λ (s : Seen). s.hidden) h

    same_open : secret v x ≡ false → x ≡ y
    unfolding seen
    same_open e = rw (e, sym same_secret ∙ e) at (ap (λ (s : Seen). s.body) h)

    pub same_outside : secret v x ≡ true → outside x ≡ outside y
    unfolding seen
    same_outside e = rw (e, sym same_secret ∙ e) at (ap (λ (s : Seen). s.body) h)

    -- an untainted object, and one of a kind that hides nothing
    pub same_whole : untainted v x ≡ true → x ≡ y
    same_whole e = same_open (untainted_not_secret x e)

    pub same_unveiled : veiled x.kind ≡ false → x ≡ y
    same_unveiled e = same_open (open_not_secret x e)

    -- a part that is always seen
    pub same_part : {A : Type 0} (f : Obj → A) → ((z : Obj) → f (outside z) ≡ f z) → f x ≡ f y
    same_part f k = bool_cases (secret v x) (λ e. sym (k x) ∙ ap f (same_outside e) ∙ k y) (λ e. ap f (same_open e))

    pub same_kind : x.kind ≡ y.kind
    unfolding outside
    same_kind = same_part (λ z. z.kind) (λ z. refl)

    pub same_quota : x.quota ≡ y.quota
    unfolding outside
    same_quota = same_part (λ z. z.quota) (λ z. refl)

    pub same_fixed : x.fixed ≡ y.fixed
    unfolding outside
    same_fixed = same_part (λ z. z.fixed) (λ z. refl)

    pub same_description : x.description ≡ y.description
    unfolding outside
    same_description = same_part (λ z. z.description) (λ z. refl)

    pub same_taint : untainted v x ≡ untainted v y
    same_taint =
        bool_cases (secret v x) (λ e. secret_tainted x e ∙ sym (secret_tainted y (sym same_secret ∙ e))) (λ e. ap (untainted v) (same_open e))

    -- the label of what is no thread
    pub same_label : is_thread x.kind ≡ false → x.label ≡ y.label
    unfolding outside
    same_label n =
        bool_cases (secret v x) (λ e. rw (n, rw same_kind at n) at (ap (λ (z : Obj). z.label) (same_outside e)))
        (λ e. ap (λ (z : Obj). z.label) (same_open e))

  -- ---- edits

  -- two tainted objects of a kind that hides its insides look the same if the rest of them is
  pub secret_same : (x y : Obj) → veiled x.kind ≡ true → x.kind ≡ y.kind → untainted v x ≡ false → untainted v y ≡ false → outside x ≡ outside y → seen v x ≡ seen v y
  unfolding seen secret
  secret_same x y k e p q d = rw (k, ap veiled (sym e) ∙ k, p, q, d)

  -- an edit that leaves the label
  module _ (e : Edit) (same : (z : Obj) → (edit e z).label ≡ z.label) where
    pub edit_taint : (x : Obj) → untainted v (edit e x) ≡ untainted v x
    unfolding untainted
    edit_taint x = rw (same x)

    pub edit_container : (x : Obj) → untainted_container v (edit e x) ≡ untainted_container v x
    unfolding untainted_container
    edit_container x = ap₂ (λ (k : Kind) (l : Bool). is_container k && l) (edit_kind e x) (edit_taint x)

    edit_secret : (x : Obj) → secret v (edit e x) ≡ secret v x
    unfolding secret
    edit_secret x = ap₂ (λ (k : Kind) (l : Bool). veiled k && not l) (edit_kind e x) (edit_taint x)

    -- of two objects that look the same, if it leaves the same of what is always seen
    pub edit_seen : ((x y : Obj) → outside x ≡ outside y → outside (edit e x) ≡ outside (edit e y)) → (x y : Obj) → seen v x ≡ seen v y → seen v (edit e x) ≡ seen v (edit e y)
    unfolding seen
    edit_seen f x y h =
        bool_cases (secret v x) (λ k. rw (edit_secret x, edit_secret y, k, sym (same_secret x y h) ∙ k, f x y (same_outside x y h k)))
        (λ k. ap (λ (z : Obj). seen v (edit e z)) (same_open x y h k))
