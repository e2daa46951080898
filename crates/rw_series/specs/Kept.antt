-- How a content is kept.
use Rattle.std.specs.Prelude.{Option, option_map}
use Rattle.rw_model.specs.declared.writer.Writer.{Writer}
use Rattle.rw_model.specs.declared.content.Content.{Content}
use Rattle.rw_series.specs.declared.kept.Kept.{Kept}

-- the content that is kept, which is none where nobody wrote it
abbrev pub content_of : Kept → Option Content
content_of kept = option_map (λ (writer : Writer). record { value = kept.value; number = kept.number; writer = writer }) kept.writer
