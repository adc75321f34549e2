-- Document 01's base plan and policy, from its table, as they are written: the very bytes, by computation. And numbers at
-- the edges of their widths.
use mathlib.Core.Path.{◌≡◌, refl}
use mathlib.Core.List.{[], ◌∷◌, ◌++◌, map, flatten}
use mathlib.Core.Bool.{true, false}
use lib.ListN.{replicate}
use Rattle.lists.specs.Numbers.{lowest, tabulate}
use Rattle.numerals.specs.Numerals.{numeral, spell, decimal_width, decimal_of}
use Rattle.plan.specs.declared.{Form.TheVariants.{End, Go, Either, Both}, Plan.{Plan}, Kind.TheVariants.{Secrecy}}
use Rattle.plan.specs.Plan.{blank, blank_assertion, at, assertion_at}
use Rattle.scan.specs.Bytes.{bytes}
use Rattle.printing.specs.Printing.{line_of, mask_of, form_of, risk_of, kind_of, print_template, print_plan, print_assertion, print_policy}

base : Plan
base =
    record {
      count = 4;
      identifiers = 1;
      templates =
          record { form = Go 1; lab = 0; pos = 0; neg = 1; creates = 0; risk = false }
          ∷ record { form = Go 2; lab = 0; pos = 0; neg = 1; creates = 0; risk = false }
          ∷ record { form = Both 1 3; lab = 1; pos = 1; neg = 1; creates = 1; risk = false }
          ∷ record { form = End; lab = 1; pos = 0; neg = 0; creates = 0; risk = true }
          ∷ replicate 60 blank;
    }

base_plan_lem : print_plan base (bytes "boot" ∷ bytes "hub" ∷ bytes "split" ∷ bytes "reader" ∷ [])
    ≡ bytes "templates=4\nidentifiers=1\n"
    ++ bytes "name=boot\nform=go:1\nlab=00000000\npos=00000000\nneg=00000001\ncreates=00000000\nrisk=0\n"
    ++ bytes "name=hub\nform=go:2\nlab=00000000\npos=00000000\nneg=00000001\ncreates=00000000\nrisk=0\n"
    ++ bytes "name=split\nform=both:1,3\nlab=00000001\npos=00000001\nneg=00000001\ncreates=00000001\nrisk=0\n"
    ++ bytes "name=reader\nform=end\nlab=00000001\npos=00000000\nneg=00000000\ncreates=00000000\nrisk=1\n"
unfolding flatten tabulate lowest numeral spell decimal_width decimal_of line_of mask_of form_of risk_of print_template print_plan at base
base_plan_lem = refl

base_policy_lem : print_policy (record { count = 1; assertions = record { kind = Secrecy; source = 3; sink = 3; anc = 3; declass = 7 } ∷ replicate 31 blank_assertion })
    ≡ bytes "assertions=1\nkind=secrecy\nsource=3\nsink=3\nanc=3\ndeclass=0000000000000007\n"
unfolding flatten tabulate lowest numeral spell decimal_width decimal_of line_of mask_of kind_of print_assertion print_policy assertion_at
base_policy_lem = refl

decimals : map decimal_of (0 ∷ 9 ∷ 10 ∷ 64 ∷ 100 ∷ 999 ∷ 1000 ∷ 9999 ∷ [])
    ≡ map bytes ("0" ∷ "9" ∷ "10" ∷ "64" ∷ "100" ∷ "999" ∷ "1000" ∷ "9999" ∷ [])
unfolding lowest numeral spell decimal_width decimal_of
decimals = refl

words : mask_of 8 0x9abcdef0 ++ form_of (Either 7 63) ≡ bytes "9abcdef0either:7,63"
unfolding lowest numeral spell decimal_width decimal_of mask_of form_of
words = refl
