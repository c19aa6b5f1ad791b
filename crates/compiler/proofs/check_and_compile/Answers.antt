use Rattle.parser.specs.Failures.{cause_of}
use Rattle.compiler.proofs.ReadingLaws.{wrong_image_lem, short_scratch, long_source, checked}
use Rattle.compiler.proofs.check_and_compile.Goals as goal

pub returns-then-image-ne-MEMORY_WORDS : goal.returns-then-image-ne-MEMORY_WORDS
unfolding cause_of
returns-then-image-ne-MEMORY_WORDS c = wrong_image_lem _ _ _ c.if-image-ne-MEMORY_WORDS.true

pub returns-then-scratch-lt-SCRATCH_WORDS : goal.returns-then-scratch-lt-SCRATCH_WORDS
unfolding cause_of
returns-then-scratch-lt-SCRATCH_WORDS c = short_scratch _ _ _ c.if-image-ne-MEMORY_WORDS.false c.if-scratch-lt-SCRATCH_WORDS.true

pub returns-then-source-gt-SOURCE_BYTES : goal.returns-then-source-gt-SOURCE_BYTES
unfolding cause_of
returns-then-source-gt-SOURCE_BYTES c = long_source _ _ _ c.if-image-ne-MEMORY_WORDS.false c.if-scratch-lt-SCRATCH_WORDS.false c.if-source-gt-SOURCE_BYTES.true

pub returns : goal.returns
returns c = checked _ _ _ c.if-image-ne-MEMORY_WORDS.false c.if-scratch-lt-SCRATCH_WORDS.false c.read_twice.ensures
