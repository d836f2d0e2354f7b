-- `from_to`: as many low bits as there are events, shifted to the first.
use mathlib.Core.Path.{◌≡◌}
use Prim.Native.Nat.{◌+◌, ◌-◌, ◌*◌, ◌%◌, ◌^◌, ◌≤◌}
use native.Mathlib.Omega.{arith}
use native.Mathlib.Nat.{mod-eq_of_lt, one-mul}
use lib.Pow.{pow_pos, pow_mono, high_ones}
use Rattle.counter.specs.Inner.Groups.{from_to}
use Rattle.counter.proofs.SetLaws.{has_from-to}
use Rattle.counter.proofs.groups.from_to.Goals as goal
use Rattle.counter.proofs.groups.from_to.Goals.{Start}

-- nothing is shifted out
module _ (c : Start) where
  ones : 1 * 2 ^ (c.args.to - c.args.from) % 18446744073709551616 ≡ 2 ^ (c.args.to - c.args.from)
  ones =
      let p = c.requires in
      let m = pow_mono {i = c.args.to - c.args.from} {j = 8} (omega arith) in
      rw (one-mul (2 ^ (c.args.to - c.args.from))) (mod-eq_of_lt (omega arith))

  kept : (2 ^ (c.args.to - c.args.from) - 1) * 2 ^ c.args.from % 18446744073709551616 ≡ (2 ^ (c.args.to - c.args.from) - 1) * 2 ^ c.args.from
  kept =
      let p = c.requires in
      let q : c.args.to - c.args.from + c.args.from ≡ c.args.to = omega arith in
      let h = high_ones (c.args.to - c.args.from) c.args.from in
      let m = pow_mono {i = c.args.to} {j = 64} p.1 in
      let z = pow_pos c.args.from in
      let n : 2 ^ (c.args.to - c.args.from + c.args.from) ≤ 18446744073709551616 = rw q m in
      mod-eq_of_lt (omega arith)

pub returns : goal.returns
unfolding from_to
returns c = rw (ones c, kept c) (record { each = λ e h. has_from-to c.args.from c.args.to (let p = c.requires in omega arith) e })
