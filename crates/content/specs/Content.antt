-- The kinds of content: source document 001, table 3, read downwards by the last kind of each block. Kinds 0 to 61 are files, 128 to 131 streams, the others reserved.
-- Assumes nothing.
use Rattle.std.specs.Prelude.{cond, ℕ, leb}
use Rattle.content.specs.declared.Content.{Content}
use Rattle.content.specs.declared.Content.TheVariants.{File, Stream, Reserved}

unfoldable pub content_of : ℕ → Content
content_of kind =
    -- 0 unknown, 1 PNG, 2 JPEG, 3 GIF, 4 BMP
    cond (leb kind 4) File
    -- 5 to 20
    (cond (leb kind 20) Reserved
    -- 21 text, 22 binary, 23 web page, 24 compressed
    (cond (leb kind 24) File
    -- 25 to 40
    (cond (leb kind 40) Reserved
    -- 41 MPEG-1 layer I or II, 42 layer III, 43 WAV, 44 DRA
    (cond (leb kind 44) File
    -- 45 to 60
    (cond (leb kind 60) Reserved
    -- 61 application
    (cond (leb kind 61) File
    -- 62 to 127
    (cond (leb kind 127) Reserved
    -- 128 DRA, 129 PCM, 130 AAC, 131 data: streams; 132 to 255, and what is no kind
    (cond (leb kind 131) Stream Reserved))))))))
