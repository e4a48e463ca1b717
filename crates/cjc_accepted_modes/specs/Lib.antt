pub mod InIntMode
