pub mod OneFurther
