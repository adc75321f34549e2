-- What a reader that did not stop has passed: so many whole lines, each with its key, and a field that was read.
use Prim.Native.Nat.{ℕ, zero, suc, ◌+◌, ◌*◌}
use Prim.Native.String.{String}
use mathlib.Core.Path.{◌≡◌, refl, ap, ◌∙◌, subst}
use mathlib.Core.Bool.{Bool, true, false}
use mathlib.Core.List.{List, [], ◌∷◌}
use native.Mathlib.Omega.{arith}
use lib.Dec.{ltb}
use lib.ListN.{length, take, drop}
use Rattle.plan.specs.declared.Form.TheVariants.{End}
use Rattle.plan.specs.declared.Kind.TheVariants.{Secrecy}
use Rattle.scan.specs.Bytes.{bytes, before, starts_with}
use Rattle.lists.proofs.Tests.{and_both}
use Rattle.field.specs.Fields.{Field, is, bad, number, template_number, mask, name, form, risk, kind, declass}
use Rattle.text.specs.Reading.{Cursor, on, stopped, Step, Reader, ◌>>=◌, give, line, template_lines, entry, entries, plan_header, plan, assertion_lines, assertion, assertions, policy_header, policy}
use Rattle.text.specs.Cursors.{begins, settled, after, opened, keyed}
use Rattle.text.proofs.Opening.{keyed-line}

-- Reading has not stopped.
abbrev pub Live : Cursor → Type 0
Live (on text k) = Unit
Live (stopped n k) = ⊥

-- The text after so many lines.
unfoldable pub after_lines : ℕ → List ℕ → List ℕ
after_lines zero text = text
after_lines (suc n) text = after_lines n (drop (before 10 text + 1) text)

-- The first line without its byte 10, and its field after the key.
abbrev pub first_line : List ℕ → List ℕ
first_line text = take (before 10 text) text

abbrev pub field_after : String → List ℕ → List ℕ
field_after key text = drop (length (bytes key)) (first_line text)

-- ---- one line

module _ {A : Type 0} (empty : A) (key : String) (read : List ℕ → Field A) (text : List ℕ) (k : ℕ) where
  abbrev read_here : Step A → Type 0
  read_here s =
      (s.next ≡ on (after_lines 1 text) (k + 1)) × (starts_with (bytes key) (first_line text) ≡ true) × (read (field_after key text) ≡ is s.value)

  keyed_read : Live (keyed empty (bytes key) read (on text k)).next → read_here (keyed empty (bytes key) read (on text k))
  unfolding keyed opened after settled after_lines
  keyed_read live = go (begins (bytes key) text) refl
    where
      inner : (x : Field A) → Live (settled empty (after_lines 1 text) k x).next
          → ((settled empty (after_lines 1 text) k x).next ≡ on (after_lines 1 text) (k + 1)) × (x ≡ is (settled empty (after_lines 1 text) k x).value)
      inner (is v) h = (refl, refl)
      inner (bad n) h = absurd h

      go : (b : Bool) → begins (bytes key) text ≡ b → read_here (keyed empty (bytes key) read (on text k))
      go true e =
          let f = inner (read (field_after key text)) (rw (e, keyed, opened) at live) in
          rw (e, keyed, opened) (f.0, (and_both (ltb (before 10 text) (length text)) (starts_with (bytes key) (first_line text)) e).1, f.1)
      go false e = absurd (rw (e, keyed, opened) at live)

  -- A line after which reading has not stopped: the next stands after it, it begins with its key, and its value was read from
  -- its field.
  pub line_read : Live (line empty key read (on text k)).next → read_here (line empty key read (on text k))
  line_read = subst (λ (s : Step A). Live s.next → read_here s) (keyed-line empty key read (on text k)) keyed_read

-- ---- lines one after the other

-- A reader stays where reading stopped; else it passes so many lines.
pub record Passes {A : Type 0} (n : ℕ) (r : Reader A) : Type 0 where
  pub stays : (m k : ℕ) → (r (stopped m k)).next ≡ stopped m k
  pub lands : (text : List ℕ) (k : ℕ) → Live (r (on text k)).next → (r (on text k)).next ≡ on (after_lines n text) (k + n)

pub passes_line : {A : Type 0} (empty : A) (key : String) (read : List ℕ → Field A) → Passes 1 (line empty key read)
unfolding line
passes_line empty key read = record {
  stays = λ m k. refl;
  lands = λ text k live. (line_read empty key read text k live).0;
}

pub passes_none : {A : Type 0} (v : A) → Passes 0 (give v)
unfolding after_lines
passes_none v = record { stays = λ m k. refl; lands = λ text k live. ap (λ (j : ℕ). on text j) (omega arith) }

pub more_lines : (m n : ℕ) (text : List ℕ) → after_lines n (after_lines m text) ≡ after_lines (m + n) text
unfolding after_lines
more_lines zero n text = let e : n ≡ 0 + n = omega arith in ap (λ (j : ℕ). after_lines j text) e
more_lines (suc m) n text =
    let e : suc (m + n) ≡ suc m + n = omega arith in
    more_lines m n (drop (before 10 text + 1) text) ∙ ap (λ (j : ℕ). after_lines j text) e

-- What stopped stays stopped.
pub passes_live : {A : Type 0} (n : ℕ) (r : Reader A) → Passes n r → (c : Cursor) → Live (r c).next → Live c
passes_live n r passes (on text k) live = tt
passes_live n r passes (stopped m k) live = subst Live (passes.stays m k) live

-- So many lines more, after the first m of a text.
pub passes_on : {A : Type 0} (n : ℕ) (r : Reader A) → Passes n r → (text : List ℕ) (k m : ℕ) (c : Cursor) → c ≡ on (after_lines m text) (k + m)
    → Live (r c).next → (r c).next ≡ on (after_lines (m + n) text) (k + (m + n))
passes_on n r passes text k m c e live =
    let sum : k + m + n ≡ k + (m + n) = omega arith in
    ap (λ (d : Cursor). (r d).next) e
    ∙ passes.lands (after_lines m text) (k + m) (subst (λ (d : Cursor). Live (r d).next) e live)
    ∙ ap (λ (t : List ℕ). on t (k + m + n)) (more_lines m n text)
    ∙ ap (λ (j : ℕ). on (after_lines (m + n) text) j) sum

pub passes_then : {A B : Type 0} (m n : ℕ) (r : Reader A) (next : A → Reader B) → Passes m r → ((v : A) → Passes n (next v)) → Passes (m + n) (◌>>=◌ r next)
passes_then m n r next first later = record {
  stays = λ i k. ap (λ (d : Cursor). (next (r (stopped i k)).value d).next) (first.stays i k) ∙ (later (r (stopped i k)).value).stays i k;
  lands = λ text k live.
      let v = (r (on text k)).value in
      let c = (r (on text k)).next in
      passes_on n (next v) (later v) text k m c (first.lands text k (passes_live n (next v) (later v) c live)) live;
}

-- After the reader reading goes on only where it went on after the first line.
abbrev pub Begins : {A B : Type 0} → Reader A → Reader B → Type 0
Begins first r = (c : Cursor) → Live (r c).next → Live (first c).next

passes_first : {A B : Type 0} (m n : ℕ) (r : Reader A) (next : A → Reader B) → Passes m r → ((v : A) → Passes n (next v))
    → Passes (m + n) (◌>>=◌ r next) × Begins r (◌>>=◌ r next)
passes_first m n r next first later =
    (passes_then m n r next first later, λ c live. passes_live n (next (r c).value) (later (r c).value) (r c).next live)

-- The lines of a template, and that its first is its name's.
pub entry-passes : (N M : ℕ) (stood : List (List ℕ)) → Passes template_lines (entry N M stood) × Begins (line [] "name=" (name stood)) (entry N M stood)
unfolding entry
entry-passes N M stood =
    passes_first 1 _ _ _ (passes_line [] "name=" (name stood)) (λ n.
    passes_then 1 _ _ _ (passes_line End "form=" (form N)) (λ f.
    passes_then 1 _ _ _ (passes_line 0 "lab=" (mask 8 M)) (λ l.
    passes_then 1 _ _ _ (passes_line 0 "pos=" (mask 8 M)) (λ p.
    passes_then 1 _ _ _ (passes_line 0 "neg=" (mask 8 M)) (λ g.
    passes_then 1 _ _ _ (passes_line 0 "creates=" (mask 8 M)) (λ c.
    passes_then 1 _ _ _ (passes_line false "risk=" risk) (λ r.
    passes_none (record { name = n; template = record { form = f; lab = l; pos = p; neg = g; creates = c; risk = r } }))))))))

-- The lines of an assertion, and that its first is that of its kind.
pub assertion-passes : (N : ℕ) → Passes assertion_lines (assertion N) × Begins (line Secrecy "kind=" kind) (assertion N)
unfolding assertion
assertion-passes N =
    passes_first 1 _ _ _ (passes_line Secrecy "kind=" kind) (λ k.
    passes_then 1 _ _ _ (passes_line 0 "source=" (template_number N)) (λ s.
    passes_then 1 _ _ _ (passes_line 0 "sink=" (template_number N)) (λ z.
    passes_then 1 _ _ _ (passes_line 0 "anc=" (template_number N)) (λ a.
    passes_then 1 _ _ _ (passes_line 0 "declass=" (declass N k s z)) (λ d.
    passes_none (record { kind = k; source = s; sink = z; anc = a; declass = d }))))))

-- ---- the two texts

passes_same : {A : Type 0} (m n : ℕ) (r : Reader A) → m ≡ n → Passes m r → Passes n r
passes_same m n r e = subst (λ (k : ℕ). Passes k r) e

pub entries-passes : (N M more : ℕ) (stood : List (List ℕ)) → Passes (template_lines * more) (entries N M stood more)
unfolding entries
entries-passes N M zero stood = passes_none []
entries-passes N M (suc more) stood =
    passes_same (template_lines + (template_lines * more + 0)) (template_lines * suc more) _ (omega arith)
    (passes_then template_lines (template_lines * more + 0) _ _ (entry-passes N M stood).0 (λ e.
    passes_then (template_lines * more) 0 _ _ (entries-passes N M more (e.name ∷ stood)) (λ rest.
    passes_none (e.template ∷ rest))))

pub assertions-passes : (N more : ℕ) → Passes (assertion_lines * more) (assertions N more)
unfolding assertions
assertions-passes N zero = passes_none []
assertions-passes N (suc more) =
    passes_same (assertion_lines + (assertion_lines * more + 0)) (assertion_lines * suc more) _ (omega arith)
    (passes_then assertion_lines (assertion_lines * more + 0) _ _ (assertion-passes N).0 (λ a.
    passes_then (assertion_lines * more) 0 _ _ (assertions-passes N more) (λ rest.
    passes_none (a ∷ rest))))

-- The two lines before the first template, and the one before the first assertion.
module _ (text : List ℕ) where
  pub plan-header : let c = (line 0 "templates=" (number 3 1 65) (on text 1)).next in
      let d = (line 0 "identifiers=" (number 3 0 33) c).next in
      Live d → d ≡ on (after_lines plan_header text) (1 + plan_header)
  plan-header live =
      let c = (line 0 "templates=" (number 3 1 65) (on text 1)).next in
      let first = passes_line 0 "templates=" (number 3 1 65) in
      let second = passes_line 0 "identifiers=" (number 3 0 33) in
      passes_on 1 _ second text 1 1 c (first.lands text 1 (passes_live 1 _ second c live)) live

  pub policy-header : Live (line 0 "assertions=" (number 3 0 33) (on text 1)).next
      → (line 0 "assertions=" (number 3 0 33) (on text 1)).next ≡ on (after_lines policy_header text) (1 + policy_header)
  policy-header = (passes_line 0 "assertions=" (number 3 0 33)).lands text 1

  -- A plan that is read has so many lines, and a policy.
  pub plan_lines : Live (plan (on text 1)).next
      → let n = plan_header + template_lines * (plan (on text 1)).value.count in (plan (on text 1)).next ≡ on (after_lines n text) (1 + n)
  unfolding plan
  plan_lines live =
      let n = line 0 "templates=" (number 3 1 65) (on text 1) in
      let m = line 0 "identifiers=" (number 3 0 33) n.next in
      let all = entries-passes n.value m.value n.value [] in
      let start = plan-header (passes_live _ _ all m.next live) in
      passes_on (template_lines * n.value) _ all text 1 plan_header m.next start live

  pub policy_lines : (N : ℕ) → Live (policy N (on text 1)).next
      → let n = policy_header + assertion_lines * (policy N (on text 1)).value.count in (policy N (on text 1)).next ≡ on (after_lines n text) (1 + n)
  unfolding policy
  policy_lines N live =
      let k = line 0 "assertions=" (number 3 0 33) (on text 1) in
      let all = assertions-passes N k.value in
      let start = policy-header (passes_live _ _ all k.next live) in
      passes_on (assertion_lines * k.value) _ all text 1 policy_header k.next start live
