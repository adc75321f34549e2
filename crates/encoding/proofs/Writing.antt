-- What the writer of a row meets: a template's words, and the row of a plan, template after template.
use Prim.Native.Nat.{ℕ, zero, suc, ◌+◌, ◌-◌, ◌*◌, ◌/◌, min, ◌≤◌, ◌<◌}
use mathlib.Core.Path.{◌≡◌, refl, sym, ap, ◌∙◌}
use mathlib.Core.Bool.{Bool, true, false, cond}
use mathlib.Core.Logic.{⊎_elim}
use mathlib.Core.List.{List, [], ◌∷◌, ◌++◌}
use native.Mathlib.Omega.{arith}
use borrow.Rule.Slice.PartMut.{put_mid}
use lib.ListN.{length, get_or, take, drop, set, replicate, length-append, get_or-append, length-set, length-replicate}
use lib.Seq.{get_or-set_other, ext_get_or}
use Rattle.std.proofs.lemmas.List.{get_or_default, get_or-append_right, get_or-take, get_or-drop, length-take, length-take-le, length-drop}
use mir.Val.{bool_byte}
use Rattle.lists.proofs.Tests.{lt_or_le}
use Rattle.lists.proofs.Length.{get_or-same}
use Rattle.plan.specs.declared.{Template.{Template}, Plan.{Plan}}
use Rattle.plan.specs.Plan.{at, blank, masks}
use Rattle.planrow.specs.Row.{header, width, words, begins, form_number, first_of, second_of, words_of, word_in, header_of, row_of_plan}
use Rattle.planrow.proofs.Places.{word_here, word_past, word_lacking, length-row, row_front, row_behind}

-- Of a template the code has the form's three words and risk as a number.
pub words_whole : (t : Template) (number first second : ℕ) → number ≡ form_number t.form → first ≡ first_of t.form → second ≡ second_of t.form
    → (number ∷ first ∷ second ∷ t.lab ∷ t.pos ∷ t.neg ∷ t.creates ∷ bool_byte t.risk ∷ []) ≡ words_of t
unfolding words_of masks
words_whole t number first second a b c = λ i. a i ∷ b i ∷ c i ∷ (masks t ++ (risk t.risk i ∷ []))
  where
    risk : (b : Bool) → bool_byte b ≡ cond b 1 0
    risk true = refl
    risk false = refl

length-words : (t : Template) → length (words_of t) ≡ width
unfolding words_of masks
length-words t = refl

-- Words stored over as many of a row from a place on.
module _ (row ws : List ℕ) (k at : ℕ) (ek : k ≡ width) (long : length ws ≡ width) (there : at + width ≤ length row) where
  front-length : length (take at row) ≡ at
  front-length = length-take-le at row (omega arith)

  abbrev after : List ℕ
  after = drop k (drop at row)

  stored-length : length (put_mid at k row ws) ≡ length row
  stored-length =
      length-append (take at row) (ws ++ after)
      ∙ omega (arith, front-length, long, length-append ws after, length-drop k (drop at row), length-drop at row)

  stored_below : (j : ℕ) → j < at → get_or (put_mid at k row ws) j 0 ≡ get_or row j 0
  stored_below j h = get_or-append (take at row) (ws ++ after) 0 j (omega (arith, front-length)) ∙ get_or-take at row j 0 h

  stored_in : (j : ℕ) → j < width → get_or (put_mid at k row ws) (at + j) 0 ≡ get_or ws j 0
  stored_in j h =
      get_or-append_right (take at row) (ws ++ after) at (at + j) 0 front-length (omega arith)
      ∙ ap (λ (j : ℕ). get_or (ws ++ after) j 0) (omega arith) ∙ get_or-append ws after 0 j (omega (arith, long))

  stored_above : (j : ℕ) → at + width ≤ j → get_or (put_mid at k row ws) j 0 ≡ get_or row j 0
  stored_above j h =
      get_or-append_right (take at row) (ws ++ after) at j 0 front-length (omega arith)
      ∙ get_or-append_right ws after width (j - at) 0 long (omega arith)
      ∙ get_or-drop k (drop at row) (j - at - width) 0 ∙ get_or-drop at row (k + (j - at - width)) 0
      ∙ ap (λ (i : ℕ). get_or row i 0) (omega arith)

-- After i of n templates: the header and their words stand there, and 0 past them.
pub record Writing (plan : Plan) (n : ℕ) (row : List ℕ) (i : ℕ) : Type 0 where
  pub limit : n ≡ min plan.count 64
  pub so_far : i ≤ n
  pub room : length row ≡ words
  pub front : (j : ℕ) → j < header → get_or row j 0 ≡ get_or (header_of plan) j 0
  pub each : (j : ℕ) → j < width * i → get_or row (header + j) 0 ≡ word_in plan j
  pub rest : (j : ℕ) → width * i ≤ j → get_or row (header + j) 0 ≡ 0

module _ (plan : Plan) (n : ℕ) where
  module _ (count : ℕ) (q : n ≡ min plan.count 64) (e : count ≡ min plan.count 65) where
    abbrev counted : List ℕ
    counted = set (replicate words 0) 0 count

    abbrev headed : List ℕ
    headed = set counted 1 plan.identifiers

    headed_front : (j : ℕ) → j < header → get_or headed j 0 ≡ get_or (header_of plan) j 0
    unfolding header_of
    headed_front zero h = e
    headed_front (suc zero) h = refl
    headed_front (suc (suc j)) h = omega arith

    pub writing_none : Writing plan n (set (set (replicate words 0) 0 count) 1 plan.identifiers) 0
    writing_none = record {
      limit = q;
      so_far = omega arith;
      room = length-set counted 1 plan.identifiers ∙ length-set (replicate words 0) 0 count ∙ length-replicate {A = ℕ} words 0;
      front = headed_front;
      each = λ j h. omega arith;
      rest = λ j h.
          get_or-set_other counted 1 (header + j) plan.identifiers 0 (λ k. omega arith)
          ∙ get_or-set_other (replicate words 0) 0 (header + j) count 0 (λ k. omega arith)
          ∙ get_or-same ℕ words (header + j) 0;
    }

  -- The next of the first n templates is stored.
  pub writing_more : (row ws : List ℕ) (k i : ℕ) (d : Template) → Writing plan n row i → i < length (take n plan.templates) → k ≡ width
      → ws ≡ words_of (get_or (take n plan.templates) i d) → Writing plan n (put_mid (begins i) k row ws) (i + 1)
  unfolding at
  writing_more row ws k i d w h ek ew = record {
    limit = w.limit;
    so_far = omega (arith, within);
    room = stored-length row ws k (begins i) ek long there ∙ w.room;
    front = λ j l. stored_below row ws k (begins i) ek long there j (omega arith) ∙ w.front j l;
    each = λ j l. ⊎_elim (λ m. stored_below row ws k (begins i) ek long there (header + j) (omega arith) ∙ w.each j m) (λ m. here j m (omega arith)) (lt_or_le j (width * i));
    rest = λ j l. stored_above row ws k (begins i) ek long there (header + j) (omega arith) ∙ w.rest j (omega arith);
  }
    where
      within : (i < n) × (i < length plan.templates)
      within = omega (arith, length-take n plan.templates)

      long : length ws ≡ width
      long = ap length ew ∙ length-words _

      there : begins i + width ≤ length row
      there = omega (arith, w.limit, w.room, within)

      template : get_or (take n plan.templates) i d ≡ at plan i
      template = get_or-take n plan.templates i d within.0 ∙ get_or_default plan.templates i d blank within.1

      here : (j : ℕ) → width * i ≤ j → j < width * i + width → get_or (put_mid (begins i) k row ws) (header + j) 0 ≡ word_in plan j
      here j l m =
          ap (λ (j : ℕ). get_or (put_mid (begins i) k row ws) j 0) place
          ∙ stored_in row ws k (begins i) ek long there (j - width * i) (omega arith)
          ∙ ap (λ (ws : List ℕ). get_or ws (j - width * i) 0) (ew ∙ ap words_of template)
          ∙ sym (word_here plan i (j - width * i) (omega (arith, w.limit, within)) (omega arith)) ∙ ap (word_in plan) back
        where
          place : header + j ≡ begins i + (j - width * i)
          place = omega arith

          back : width * i + (j - width * i) ≡ j
          back = omega arith

  pub writing_all : (row : List ℕ) (i : ℕ) → Writing plan n row i → length (take n plan.templates) ≤ i → row ≡ row_of_plan plan
  writing_all row i w h = ext_get_or 0 row (row_of_plan plan) (w.room ∙ sym (length-row plan)) at_each
    where
      past : (j : ℕ) → j < width * 64 → width * i ≤ j → word_in plan j ≡ 0
      past j l m =
          ⊎_elim (λ k. word_lacking plan j (omega (arith, w.limit, k, length-take n plan.templates))) (λ k. word_past plan j k)
          (lt_or_le (j / width) plan.count)

      behind : (j : ℕ) → j < width * 64 → get_or row (header + j) 0 ≡ get_or (row_of_plan plan) (header + j) 0
      behind j l =
          ⊎_elim (w.each j) (λ m. w.rest j m ∙ sym (past j l m)) (lt_or_le j (width * i))
          ∙ sym (row_behind plan j l)

      from_header : (j k : ℕ) → header + k ≡ j → k < width * 64 → get_or row j 0 ≡ get_or (row_of_plan plan) j 0
      from_header j k e l =
          ap (λ (j : ℕ). get_or row j 0) (sym e) ∙ behind k l ∙ ap (λ (j : ℕ). get_or (row_of_plan plan) j 0) e

      at_each : (j : ℕ) → j < length row → get_or row j 0 ≡ get_or (row_of_plan plan) j 0
      at_each j l =
          ⊎_elim (λ m. w.front j m ∙ sym (row_front plan j m)) (λ m. from_header j (j - header) (omega arith) (omega (arith, w.room)))
          (lt_or_le j header)
