use Rattle.status_fitting.proofs.words.split_digits.Goals as goal
use Rattle.netlist_link.proofs.Digits.{digits_dropped, split_only}

pub returns-clause-digits : goal.returns-clause-digits
returns-clause-digits c = rw c.split_at.ensures.back (digits_dropped c.args.bytes.now c.digits_from-start.result c.digits_from-start.ensures.digits)

pub returns-clause-only : goal.returns-clause-only
returns-clause-only c =
    rw (c.split_at.ensures.front, c.split_at.ensures.back)
    (split_only c.args.bytes.now c.digits_from-start.result c.digits_from-start.ensures.within c.digits_from-start.ensures.digits c.digits_from-start.ensures.before)
