-- The policy that was read is in range: each assertion is, and the places after them are blank.
use Prim.Native.Nat.{ℕ, zero, suc, ◌-◌, ◌^◌, ◌<◌}
use Prim.Native.String.{String}
use mathlib.Core.Path.{◌≡◌, refl, sym, ap, subst}
use mathlib.Core.Bool.{false}
use mathlib.Core.List.{List}
use native.Mathlib.Omega.{arith}
use lib.Dec.{eqb}
use lib.ListN.{length, get_or, replicate, get_or-append}
use borrow.Author.Tests.{eqb-true, not-false}
use Rattle.lists.proofs.Tests.{or_none}
use Rattle.mask.specs.Mask.{has}
use Rattle.plan.specs.declared.Kind.{Kind, TheVariants.{Secrecy, Prot}}
use Rattle.plan.specs.Plan.{blank_assertion, assertion_at}
use Rattle.plan.specs.Range.{Clear, AssertionInRange, PolicyInRange}
use Rattle.field.specs.Fields.{is, bad, number, template_number, mask, kind, misplaced, declass}
use Rattle.field.proofs.Each.{Each, each_is, each_bad, each_if, each_then, mask_read}
use Rattle.text.specs.Reading.{Cursor, on, line, assertion, assertions, policy, no_policy, read_policy, Complete}
use Rattle.reader.proofs.Rows.{row_full, row_past, row_cons}
use Rattle.text.proofs.Passed.{Live}
use Rattle.reader.proofs.Live.{line_from, line_each, count_line, complete_holds}

-- A template's number that was read is below N.
template-line : (N : ℕ) (key : String) (c : Cursor) → Live (line 0 key (template_number N) c).next
    → Live c × ((line 0 key (template_number N) c).value < N)
unfolding template_number
template-line N key c live = let r = count_line 0 N key c live in (r.0, r.1.1)

declass_range : (N : ℕ) (k : Kind) (source sink : ℕ) (s : List ℕ) → Each (λ d. (d < 2 ^ N) × (misplaced k source sink d ≡ false)) (declass N k source sink s)
unfolding declass
declass_range N k source sink s =
    each_then _ (mask 16 N s) _ (λ d e.
    each_if _ (misplaced k source sink d) (bad 6) (is d) (λ q. each_bad _ 6) (λ q. each_is _ d ((mask_read 16 N s d e).2, q)))

clear_of : (k : Kind) (source sink d : ℕ) → misplaced k source sink d ≡ false → Clear k source sink d
unfolding misplaced
clear_of Secrecy source sink d e = or_none (has source d) (has sink d) e
clear_of Prot source sink d e = eqb-true d 0 (not-false (eqb d 0) e)

assertion_fine : (N : ℕ) (c : Cursor) → Live (assertion N c).next → Live c × AssertionInRange N (assertion N c).value
unfolding assertion
assertion_fine N c live =
    let kinds = line Secrecy "kind=" kind c in
    let sources = line 0 "source=" (template_number N) kinds.next in
    let sinks = line 0 "sink=" (template_number N) sources.next in
    let ancs = line 0 "anc=" (template_number N) sinks.next in
    let k = kinds.value in
    let s = sources.value in
    let z = sinks.value in
    let declass-line = line_each (λ d. (d < 2 ^ N) × (misplaced k s z d ≡ false)) 0 "declass=" (declass N k s z) (declass_range N k s z) ancs.next live in
    let anc-line = template-line N "anc=" sinks.next declass-line.0 in
    let sink-line = template-line N "sink=" sources.next anc-line.0 in
    let source-line = template-line N "source=" kinds.next sink-line.0 in
    let kind-line = line_from Secrecy "kind=" kind c source-line.0 in (
      kind-line.0,
      record {
        source = source-line.1;
        sink = sink-line.1;
        anc = anc-line.1;
        declass = declass-line.1.0;
        clear = clear_of k s z _ declass-line.1.1;
      },
    )

pub assertions_fine : (N : ℕ) (more : ℕ) (c : Cursor) → Live (assertions N more c).next
    → Live c × (length (assertions N more c).value ≡ more) × ((i : ℕ) → i < more → AssertionInRange N (get_or (assertions N more c).value i blank_assertion))
unfolding assertions
assertions_fine N zero c live = (live, refl, λ i h. absurd (omega arith))
assertions_fine N (suc more) c live =
    let a = assertion N c in
    let rest = assertions_fine N more a.next live in
    let first = assertion_fine N c rest.0 in
    (first.0, ap suc rest.1, row_cons (AssertionInRange N) blank_assertion a.value (assertions N more a.next).value more first.1 rest.2)

policy_range : (N : ℕ) (text : List ℕ) → Live (policy N (on text 1)).next → PolicyInRange N (policy N (on text 1)).value
unfolding policy assertion_at
policy_range N text live =
    let k = line 0 "assertions=" (number 3 0 33) (on text 1) in
    let K = k.value in
    let row = assertions_fine N K k.next live in
    let count = count_line 0 33 "assertions=" (on text 1) row.0 in
    let list = (assertions N K k.next).value in
    record {
      assertions = omega (arith, count.1.1);
      places = row_full list K 32 blank_assertion row.1 (omega (arith, count.1.1));
      each = λ i h. subst (AssertionInRange N) (sym (get_or-append list (replicate (32 - K) blank_assertion) blank_assertion i (omega (arith, row.1, h)))) (row.2 i h);
      unused = λ i h. row_past list (32 - K) i blank_assertion (omega (arith, row.1));
    }

-- A policy that reading gives as complete is in range for the plan's count of templates.
pub policy_in_range : (N : ℕ) (text : List ℕ) → (read_policy N text).answer ≡ Complete → PolicyInRange N (read_policy N text).policy
unfolding read_policy
policy_in_range N text =
    complete_holds (PolicyInRange N) text (policy N (on text 1)).next (policy N (on text 1)).value no_policy (policy_range N text)
