pub mod BoxLoop
