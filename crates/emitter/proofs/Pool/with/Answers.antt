use mathlib.Core.Path.{◌≡◌, sym, ◌∙◌}
use native.Mathlib.Omega.{arith}
use borrow.Author.Tests.{lt-ltb, le-ltb}
use lib.ListN.{length}
use Rattle.layout.specs.Emission.{with_literals}
use Rattle.emitter.specs.Emitted.{pooled, pooled_all}
use Rattle.emitter.proofs.EmittedPools.{known, new, full, appended}
use borrow.Author.Rules.{rules}
use Rattle.emitter.proofs.Pool.with.Goals as goal

pub returns-then-index_of-count : goal.returns-then-index_of-count
unfolding with_literals pooled_all pooled
returns-then-index_of-count c = record {
  held = sym (known _ _ _ _ c.held_count-count.ensures.0 c.index_of.ensures.0 c.held_count-count.ensures.1 c.if-index_of-count.true);
  whole =
      rw (← c.index_of.ensures.0, ← c.held_count-count.ensures.0, lt-ltb _ _ c.if-index_of-count.true);
}

pub returns-then-count-lt-POOL_WORDS : goal.returns-then-count-lt-POOL_WORDS
unfolding with_literals pooled_all pooled
returns-then-count-lt-POOL_WORDS c = let long : length c.args.self.words ≡ 512 = search rules in
    let pool = c.args.self in
    record {
      held = appended pool.count pool.words _ _ c.held_count-count.ensures.0 (omega arith) ∙ sym (new _ _ _ _ c.held_count-count.ensures.0 c.index_of.ensures.0 (omega (arith, c.if-count-lt-POOL_WORDS.true)) c.if-index_of-count.false);
      whole =
          rw (← c.index_of.ensures.0, ← c.held_count-count.ensures.0, le-ltb _ _ c.if-index_of-count.false, lt-ltb _ _ c.if-count-lt-POOL_WORDS.true);
    }

pub returns : goal.returns
unfolding with_literals pooled_all pooled
returns c = let e : c.held_count-count.result ≡ 512 = omega (arith, c.held_count-count.ensures.1) in
    record {
      held = sym (full _ _ _ _ c.held_count-count.ensures.0 c.index_of.ensures.0 e c.if-index_of-count.false);
      whole =
          rw (← c.index_of.ensures.0, ← c.held_count-count.ensures.0, le-ltb _ _ c.if-index_of-count.false, le-ltb _ _ c.if-count-lt-POOL_WORDS.false);
    }
