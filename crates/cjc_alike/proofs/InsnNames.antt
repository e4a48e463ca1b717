mod Types
mod Fields
mod Sources
mod Named
